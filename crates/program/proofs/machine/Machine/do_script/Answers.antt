use Rattle.std.proofs.Common.{inl, inr, refl, subst}
use Rattle.std.proofs.lemmas.Result.{IfErr-weaker, err_from_is_err_and, on_ok_weaker}
use Rattle.program.specs.Files.{writing_of}
use Rattle.program.specs.Remarks.{unnoted}
use Rattle.program.specs.Runs.{HasBrokenOff, HasPrinted}
use Rattle.program.proofs.machine.Machine.do_script.Goals as goal

pub returns-in_err-core-clause-stopped : goal.returns-in_err-core-clause-stopped
returns-in_err-core-clause-stopped g c =
    let p = err_from_is_err_and c.from_residual.result c.from_residual.ensures.1 in
    rw (p.1, p.2) (inl (c.in_err-core.ensures.fault, refl))

pub returns-clause-done : goal.returns-clause-done
returns-clause-done g c =
    let begun = c.in_ok-core.ensures.begun in
    on_ok_weaker c.do_all_lines.result
    (λ run. (
      begun.0,
      begun.1,
      begun.2,
      subst (λ h. HasPrinted (writing_of g.F.Out.OutFile.path g.F.Out.Placed.kept g.F.Out.Device.failures) c.args.way c.args.script.now (unnoted h) c.args.parts.2.now c.args.printer.now c.do_all_lines.new.printer) begun.3 run,
      c.do_all_lines.ensures.flushed,
    ))
    c.do_all_lines.ensures.done

pub returns-clause-stopped : goal.returns-clause-stopped
returns-clause-stopped g c =
    let begun = c.in_ok-core.ensures.begun in
    IfErr-weaker c.do_all_lines.result _ _
    (λ f stop. inr (
      begun.0,
      begun.1,
      begun.2,
      subst (λ h. HasBrokenOff (writing_of g.F.Out.OutFile.path g.F.Out.Placed.kept g.F.Out.Device.failures) c.args.way c.args.script.now (unnoted h) c.args.parts.2.now f c.args.printer.now c.do_all_lines.new.printer) begun.3 stop,
      c.do_all_lines.ensures.flushed,
    ))
    c.do_all_lines.ensures.stopped

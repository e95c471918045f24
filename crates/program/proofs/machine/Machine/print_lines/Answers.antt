use Rattle.std.proofs.Common.{◌∙◌, ap, inl, inr, map}
use Rattle.std.proofs.lemmas.Result.{IfErr-weaker, err_from_is_err_and, on_ok_weaker}
use Rattle.program.specs.Files.{writing_of}
use Rattle.program.proofs.PrintLemmas.{prints_none}
use Rattle.program.proofs.RunLemmas.{broken, printed}
use Rattle.program.proofs.machine.Machine.print_lines.Goals as goal

pub returns-in_err-first-clause-stopped : goal.returns-in_err-first-clause-stopped
returns-in_err-first-clause-stopped g c =
    let p = err_from_is_err_and c.from_residual.result c.from_residual.ensures.1 in
    rw (p.1, p.2) (inl (prints_none c.args.printer.now, inl c.in_err-first.ensures.memory))

pub returns-in_err-show-clause-stopped : goal.returns-in_err-show-clause-stopped
returns-in_err-show-clause-stopped g c =
    let p = err_from_is_err_and c.from_residual-in_err-show.result c.from_residual-in_err-show.ensures.1 in
    rw (p.1, p.2) (inl (c.in_err-show.ensures.stopped, c.in_err-show.ensures.fault))

pub returns-clause-done : goal.returns-clause-done
returns-clause-done g c =
    on_ok_weaker c.do_lines.result
    (λ run. printed (writing_of g.F.Out.OutFile.path g.F.Out.Placed.kept g.F.Out.Device.failures) c.args.way c.args.script.now c.args.course.now c.args.lines.now c.args.printer.now c.show.new.printer c.do_lines.new.printer c.as_slice.result.now (map (λ l. l.now) c.as_slice-2.result.now) (c.as_slice.ensures.value ∙ c.in_ok-first.ensures.first) (ap (map (λ l. l.now)) c.as_slice-2.ensures.value ∙ c.in_ok-first.ensures.lines) c.in_ok-show.ensures.printed run)
    c.do_lines.ensures.done

pub returns-clause-stopped : goal.returns-clause-stopped
returns-clause-stopped g c =
    IfErr-weaker c.do_lines.result _ _
    (λ f stop. broken (writing_of g.F.Out.OutFile.path g.F.Out.Placed.kept g.F.Out.Device.failures) c.args.way c.args.script.now c.args.course.now c.args.lines.now f c.args.printer.now c.show.new.printer c.do_lines.new.printer c.as_slice.result.now (map (λ l. l.now) c.as_slice-2.result.now) (c.as_slice.ensures.value ∙ c.in_ok-first.ensures.first) (ap (map (λ l. l.now)) c.as_slice-2.ensures.value ∙ c.in_ok-first.ensures.lines) c.in_ok-show.ensures.printed stop)
    c.do_lines.ensures.stopped

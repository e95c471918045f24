use Rattle.std.proofs.Common.{subst}
use Rattle.std.proofs.lemmas.Result.{IfErr-weaker, on_ok_weaker}
use Rattle.program.specs.Files.{writing_of}
use Rattle.program.specs.Runs.{HasBrokenOff, HasPrinted}
use Rattle.program.proofs.RunLemmas.{broken_flushed, flushed, lost}
use Rattle.program.proofs.machine.Machine.do_all_lines.Goals as goal

pub returns-in-Ok-clause-done : goal.returns-in-Ok-clause-done
returns-in-Ok-clause-done g c =
    on_ok_weaker c.print_lines-done.result
    (λ run. subst (λ h. HasPrinted (writing_of g.F.Out.OutFile.path g.F.Out.Placed.kept g.F.Out.Device.failures) c.args.way c.args.script.now h c.args.lines.now c.args.printer.now c.flush.new.self) c.of-course.ensures
    (flushed (writing_of g.F.Out.OutFile.path g.F.Out.Placed.kept g.F.Out.Device.failures) c.args.way c.args.script.now c.of-course.result c.args.lines.now c.args.printer.now c.print_lines-done.new.printer c.flush.new.self run c.in-Ok.ensures.printed))
    c.print_lines-done.ensures.done

pub returns-in-Ok-clause-stopped : goal.returns-in-Ok-clause-stopped
returns-in-Ok-clause-stopped g c =
    IfErr-weaker c.print_lines-done.result _ _
    (λ f stop. subst (λ h. HasBrokenOff (writing_of g.F.Out.OutFile.path g.F.Out.Placed.kept g.F.Out.Device.failures) c.args.way c.args.script.now h c.args.lines.now f c.args.printer.now c.flush.new.self) c.of-course.ensures
    (broken_flushed (writing_of g.F.Out.OutFile.path g.F.Out.Placed.kept g.F.Out.Device.failures) c.args.way c.args.script.now c.of-course.result c.args.lines.now f c.args.printer.now c.print_lines-done.new.printer c.flush.new.self stop c.in-Ok.ensures.printed))
    c.print_lines-done.ensures.stopped

pub returns-in-Err-clause-stopped : goal.returns-in-Err-clause-stopped
returns-in-Err-clause-stopped g c =
    subst (λ h. HasBrokenOff (writing_of g.F.Out.OutFile.path g.F.Out.Placed.kept g.F.Out.Device.failures) c.args.way c.args.script.now h c.args.lines.now c.fault_of_print.result c.args.printer.now c.flush.new.self) c.of-course.ensures
    (lost c.print_lines-done.result (writing_of g.F.Out.OutFile.path g.F.Out.Placed.kept g.F.Out.Device.failures) c.args.way c.args.script.now c.of-course.result c.args.lines.now c.fault_of_print.result c.args.printer.now c.print_lines-done.new.printer c.flush.new.self
    c.print_lines-done.ensures.done c.print_lines-done.ensures.stopped c.in-Err.ensures.stopped (c.fault_of_print.ensures.device c.in-Err.ensures.error) c.in-Err.ensures.device)

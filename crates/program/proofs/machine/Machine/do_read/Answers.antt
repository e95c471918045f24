use Rattle.std.proofs.Common.{◌∙◌}
use Rattle.program.specs.Files.{writing_of}
use Rattle.program.proofs.EndLemmas.{was_done, was_stopped}
use Rattle.program.proofs.RunLemmas.{script_has_run, script_has_stopped}
use Rattle.program.proofs.machine.Machine.do_read.Goals as goal

pub returns-clause-done : goal.returns-clause-done
returns-clause-done g c told =
    script_has_run (writing_of g.F.Out.OutFile.path g.F.Out.Placed.kept g.F.Out.Device.failures) _ c.args.way c.args.text.now c.args.script _ _ c.as_slice.result.now c.args.printer.now c.do_script-done.new.printer
    c.into_parts-catalog.ensures.catalog (c.as_ref.ensures.value ∙ c.into_parts-catalog.ensures.opens) (c.as_slice.ensures.value ∙ c.into_parts-catalog.ensures.lines)
    (was_done c.do_script-done.result c.end_script-status.result _ c.end_script-status.ensures.kind c.do_script-done.ensures.done told)

pub returns-clause-stopped : goal.returns-clause-stopped
returns-clause-stopped g c other =
    let s = was_stopped c.do_script-done.result c.end_script-status.result _ c.end_script-status.ensures.kind c.do_script-done.ensures.stopped other in
    (s.0, s.1, script_has_stopped (writing_of g.F.Out.OutFile.path g.F.Out.Placed.kept g.F.Out.Device.failures) _ c.args.way c.args.text.now c.args.script _ _ c.as_slice.result.now s.0 c.args.printer.now c.do_script-done.new.printer c.into_parts-catalog.ensures.catalog (c.as_ref.ensures.value ∙ c.into_parts-catalog.ensures.opens) (c.as_slice.ensures.value ∙ c.into_parts-catalog.ensures.lines) s.2)

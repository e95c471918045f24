use Rattle.std.proofs.Common.{◌∙◌}
use Rattle.program.specs.Files.{writing_of}
use Rattle.program.proofs.EndLemmas.{of_both_errors, was_done, was_stopped}
use Rattle.program.proofs.FreelyLemmas.{script_has_run_freely}
use Rattle.program.proofs.StopLemmas.{script_ends_freely}
use Rattle.program.proofs.free.Machine+F+T+Global.serve_script.Goals as goal

pub returns-clause-done : goal.returns-clause-done
returns-clause-done g c told =
    script_has_run_freely (writing_of g.F.Out.OutFile.path g.F.Out.Placed.kept g.F.Out.Device.failures) _ c.args.way c.args.script _ _ c.as_slice.result.now c.args.printer.now c.do_sessions-done.new.printer
    c.into_parts-catalog.ensures.catalog (c.as_ref.ensures.value ∙ c.into_parts-catalog.ensures.opens) (c.as_slice.ensures.value ∙ c.into_parts-catalog.ensures.lines)
    (was_done c.do_sessions-done.result c.end_script.result _ c.end_script.ensures.kind c.do_sessions-done.ensures.done told)

pub returns-clause-stopped : goal.returns-clause-stopped
returns-clause-stopped g c other =
    let s = was_stopped c.do_sessions-done.result c.end_script.result _ c.end_script.ensures.kind (of_both_errors c.do_sessions-done.result _ _ c.do_sessions-done.ensures.fault c.do_sessions-done.ensures.stopped) other in
    (s.0, s.1, (script_ends_freely _ c.args.way c.args.script _ _ c.as_slice.result.now s.0 c.do_sessions-done.new.printer c.into_parts-catalog.ensures.catalog (c.as_ref.ensures.value ∙ c.into_parts-catalog.ensures.opens) (c.as_slice.ensures.value ∙ c.into_parts-catalog.ensures.lines) s.2.0, s.2.1))

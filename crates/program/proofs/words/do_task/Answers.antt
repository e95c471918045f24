use Rattle.std.proofs.Common.{◌∙◌, Global, rules, sym}
use Rattle.program.specs.declared.task.Task.TheVariants as task
use Rattle.program.specs.Files.{writing_of}
use Rattle.program.proofs.EndLemmas.{of_both_errors, was_done, was_stopped}
use Rattle.program.proofs.OutcomeLemmas.{free_done, free_stopped, task_done, task_stopped}
use Rattle.program.proofs.words.do_task.Goals as goal
use Rattle.program.proofs.words.do_task.Goals.{in-Run, in-Free, in-Restore}

pub returns-clause-done : goal.returns-clause-done
returns-clause-done g c told = elim c.match-task.branch [
  | in-Run w ↦ task_done _ _ (writing_of g.F.Out.OutFile.path g.F.Out.Placed.kept g.F.Out.Device.failures) _ _ c.args.task (task.Run w.in-Run.script w.in-Run.way) _ _ _ c.new-printer.result w.run_file-status.new.printer c.match-task.printer w.in-Run.is c.new-printer.ensures w.printer-is (w.run_file-status.ensures.done (sym w.status-is ∙ told)) (search rules)
  | in-Free w ↦ task_done _ _ (writing_of g.F.Out.OutFile.path g.F.Out.Placed.kept g.F.Out.Device.failures) _ _ c.args.task (task.Free w.in-Free.script w.in-Free.way) _ _ _ c.new-printer.result w.run_free-status.new.printer c.match-task.printer w.in-Free.is c.new-printer.ensures w.printer-is (free_done g.row.A.Denot Global (writing_of g.F.Out.OutFile.path g.F.Out.Placed.kept g.F.Out.Device.failures) g.F.Stored.held g.F.Stored.input w.in-Free.script w.in-Free.way w.with_memory-machine.result.files.now c.args.machine.now.files.now c.new-printer.result w.run_free-status.new.printer w.with_memory-machine.ensures (w.run_free-status.ensures.done (sym w.status-is ∙ told))) (search rules)
  | in-Restore w ↦ task_done _ _ (writing_of g.F.Out.OutFile.path g.F.Out.Placed.kept g.F.Out.Device.failures) _ _ c.args.task (task.Restore w.in-Restore.dump w.in-Restore.jobs w.in-Restore.out) _ _ _ c.new-printer.result w.restore_file-done.new.printer c.match-task.printer w.in-Restore.is c.new-printer.ensures w.printer-is (was_done w.restore_file-done.result w.end-status.result _ w.end-status.ensures.kind w.restore_file-done.ensures.done (sym w.status-is ∙ told)) (search rules)
]

pub returns-clause-stopped : goal.returns-clause-stopped
returns-clause-stopped g c other = elim c.match-task.branch [
  | in-Run w ↦ task_stopped _ Global (writing_of g.F.Out.OutFile.path g.F.Out.Placed.kept g.F.Out.Device.failures) _ _ c.args.task (task.Run w.in-Run.script w.in-Run.way) _ w.run_file-status.result _ _ _ c.new-printer.result w.run_file-status.new.printer c.match-task.printer w.in-Run.is c.new-printer.ensures w.printer-is w.status-is (w.run_file-status.ensures.stopped (λ told. other (w.status-is ∙ told))) (search rules)
  | in-Free w ↦ task_stopped _ Global (writing_of g.F.Out.OutFile.path g.F.Out.Placed.kept g.F.Out.Device.failures) _ _ c.args.task (task.Free w.in-Free.script w.in-Free.way) _ w.run_free-status.result _ _ _ c.new-printer.result w.run_free-status.new.printer c.match-task.printer w.in-Free.is c.new-printer.ensures w.printer-is w.status-is (free_stopped g.row.A.Denot Global (writing_of g.F.Out.OutFile.path g.F.Out.Placed.kept g.F.Out.Device.failures) g.F.Stored.held g.F.Stored.input w.in-Free.script w.in-Free.way w.run_free-status.result w.with_memory-machine.result.files.now c.args.machine.now.files.now c.new-printer.result w.run_free-status.new.printer w.with_memory-machine.ensures (w.run_free-status.ensures.stopped (λ told. other (w.status-is ∙ told)))) (search rules)
  | in-Restore w ↦ task_stopped _ Global (writing_of g.F.Out.OutFile.path g.F.Out.Placed.kept g.F.Out.Device.failures) _ _ c.args.task (task.Restore w.in-Restore.dump w.in-Restore.jobs w.in-Restore.out) _ w.end-status.result _ _ _ c.new-printer.result w.restore_file-done.new.printer c.match-task.printer w.in-Restore.is c.new-printer.ensures w.printer-is w.status-is (was_stopped w.restore_file-done.result w.end-status.result _ w.end-status.ensures.kind (of_both_errors w.restore_file-done.result _ _ w.restore_file-done.ensures.fault w.restore_file-done.ensures.stopped) (λ told. other (w.status-is ∙ told))) (search rules)
]

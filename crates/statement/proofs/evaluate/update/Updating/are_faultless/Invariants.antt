use Rattle.std.proofs.Common.{◌≡◌, None, map, take}
use Rattle.statement.specs.Updating.{first_given, refuses}
use Rattle.statement.specs.declared.evaluate.stage.Stage.{Stage}
use Rattle.statement.proofs.evaluate.update.Updating.are_faultless.Given as goal

-- no stage refuses what is assigned to a row so far
abbrev pub invariant-loop-row : goal.invariant-loop-row
invariant-loop-row g l = (s : Stage) → first_given (refuses s (g.R.SnapshotReader.tables l.self.reader.now)) l.self.assignments.now l.columns (map (λ row. row.now) (take l.row-index l.rows)) ≡ None

use Rattle.std.proofs.Common.{◌≡◌, None, map, take}
use Rattle.statement.specs.Updating.{first_given, refuses}
use Rattle.statement.proofs.evaluate.update.Updating.first_given.Given as goal

-- no row so far has a bad column
abbrev pub invariant-loop-row : goal.invariant-loop-row
invariant-loop-row g l = first_given (refuses l.stage (g.R.SnapshotReader.tables l.self.reader.now)) l.self.assignments.now l.columns (map (λ row. row.now) (take l.row-index l.rows)) ≡ None

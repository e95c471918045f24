use Rattle.std.proofs.Common.{◌≡◌, drop, map}
use Rattle.statement.specs.Evaluation.{least_table}
use Rattle.statement.proofs.evaluate.delete.least_table.Given as goal

-- the least table is one of those left
abbrev pub invariant-loop-place : goal.invariant-loop-place
invariant-loop-place g l =
    least_table l.table (map (λ row. row.now) l.gone) 0 l.catalog (g.R.SnapshotReader.tables l.reader)
    ≡ least_table l.table (map (λ row. row.now) l.gone) l.place (drop l.place l.catalog) (drop l.place (g.R.SnapshotReader.tables l.reader))

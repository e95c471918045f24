use Rattle.std.proofs.Common.{◌≡◌, length, map}
use Rattle.std.specs.List.{list_any}
use Rattle.schema.specs.Plain.{cells, rows_of}
use Rattle.schema.specs.Rows.{rows_left}
use Rattle.statement.specs.Evaluation.{names_one}
use Rattle.statement.proofs.evaluate.delete.walked_names_one.Given as goal

-- one of the rows left does so, where any does
abbrev pub invariant-loop-next : goal.invariant-loop-next
invariant-loop-next g l =
    let rows = rows_of (g.R.SnapshotReader.tables l.reader) l.walked in
    list_any (λ row. names_one l.table (map (λ row. row.now) l.gone) l.columns (cells row)) rows ≡ list_any (λ row. names_one l.table (map (λ row. row.now) l.gone) l.columns (cells row)) (rows_left rows l.next)

abbrev pub decreases-loop-next : goal.decreases-loop-next
decreases-loop-next g l = length (rows_left (rows_of (g.R.SnapshotReader.tables l.reader) l.walked) l.next)

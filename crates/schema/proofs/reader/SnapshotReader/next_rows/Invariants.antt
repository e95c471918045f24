use Rattle.std.proofs.Common.{◌≡◌, ◌++◌, ◌≤◌, length}
use Rattle.schema.specs.Plain.{rows_of}
use Rattle.schema.specs.Rows.{rows_left, rows_within}
use Rattle.schema.specs.Walking.{lent}
use Rattle.schema.proofs.reader.SnapshotReader.next_rows.Given as goal

-- the rows so far and those left are those within the bound; so far there are no more than are wanted
abbrev pub invariant-loop-next : goal.invariant-loop-next
invariant-loop-next g l =
    let rows = rows_of (g.Self.SnapshotReader.tables l.self) l.table in
    (lent l.rows.items ++ rows_left rows l.next ≡ rows_within rows l.fn.after) × (length (lent l.rows.items) ≤ l.most)

abbrev pub decreases-loop-next : goal.decreases-loop-next
decreases-loop-next g l = length (rows_left (rows_of (g.Self.SnapshotReader.tables l.self) l.table) l.next)

use Rattle.std.proofs.Common.{◌≡◌, ◌+◌, ◌++◌, length, take}
use Rattle.schema.specs.Plain.{rows_of}
use Rattle.schema.specs.Walking.{lent}
use Rattle.dumpplan.specs.Pieces.{cuts, to_come}
use Rattle.dumpplan.proofs.cutting.cut_table.Given as goal

-- the batch is the first of the rows to come; the cuts so far and those to come; the rows so far and the rows to come
abbrev pub invariant-loop-batch : goal.invariant-loop-batch
invariant-loop-batch g l =
    let rows = rows_of (g.R.SnapshotReader.tables l.reader) l.fn.table in
    (lent l.batch.items ≡ take l.most (to_come rows l.batch.items))
    × (l.keys.items ++ cuts l.most l.most (to_come rows l.batch.items) ≡ cuts l.most l.most rows)
    × (l.rows + length (to_come rows l.batch.items) ≡ length rows)

abbrev pub decreases-loop-batch : goal.decreases-loop-batch
decreases-loop-batch g l = length (to_come (rows_of (g.R.SnapshotReader.tables l.reader) l.fn.table) l.batch.items)

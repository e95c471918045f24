use Rattle.std.proofs.Common.{◌≡◌, ◌++◌, length}
use Rattle.schema.specs.Plain.{rows_of}
use Rattle.schema.specs.Rows.{IsInKeyOrder}
use Rattle.dumpplan.specs.Pieces.{rows_from, rows_before, rows_text}
use Rattle.dumpplan.proofs.range.append_range.Given as goal

-- the rows so far, and those to come before the end; their keys rise
abbrev pub invariant-loop-walk : goal.invariant-loop-walk
invariant-loop-walk g l =
    let rows = rows_of (g.R.SnapshotReader.tables l.reader) l.range.table in
    (l.text.items ++ rows_text (rows_before l.range.end l.walk) ≡ l.fn.text.items ++ rows_text (rows_before l.range.end (rows_from l.range.from rows)))
    × IsInKeyOrder l.walk

abbrev pub decreases-loop-walk : goal.decreases-loop-walk
decreases-loop-walk g l = length l.walk

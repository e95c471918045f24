use Rattle.std.proofs.Common.{◌≡◌, ◌++◌, length}
use Rattle.std.specs.List.{flat_map}
use Rattle.schema.specs.Plain.{rows_of}
use Rattle.explore.specs.Texts.{named_row}
use Rattle.explore.proofs.states.append_rows.Given as goal

-- the rows so far, and those to come
abbrev pub invariant-loop-walk : goal.invariant-loop-walk
invariant-loop-walk g l =
    let rows = rows_of (g.R.SnapshotReader.tables l.reader) l.fn.table in
    l.text.items ++ flat_map (named_row l.name) l.walk ≡ l.fn.text.items ++ flat_map (named_row l.name) rows

abbrev pub decreases-loop-walk : goal.decreases-loop-walk
decreases-loop-walk g l = length l.walk

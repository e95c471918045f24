use Rattle.std.proofs.Common.{◌≡◌, ◌++◌, length, map}
use Rattle.std.specs.List.{AllByRecursion, filter}
use Rattle.schema.specs.Plain.{rows_of}
use Rattle.schema.specs.Rows.{IsInKeyOrder}
use Rattle.schema.specs.Walking.{lent, rows_to_come}
use Rattle.statement.specs.Conditions.{satisfies}
use Rattle.statement.specs.Walk.{IsWithin}
use Rattle.statement.proofs.evaluate.chosen.chosen_between.Given as goal

-- the rows chosen so far, and those of the rows to come, whose keys rise
abbrev pub invariant-loop-alloc : goal.invariant-loop-alloc
invariant-loop-alloc g l =
    let rows = rows_of (g.R.SnapshotReader.tables l.reader) l.fn.table in
    let come = rows_to_come rows (lent l.batch.items) 0 in
    (map (λ row. row.now) l.chosen.items ++ filter (satisfies l.conditions) come ≡ filter (satisfies l.conditions) rows)
    × AllByRecursion (λ row. IsWithin l.conditions l.low l.high row) come × IsInKeyOrder come

abbrev pub decreases-loop-alloc : goal.decreases-loop-alloc
decreases-loop-alloc g l = length (rows_to_come (rows_of (g.R.SnapshotReader.tables l.reader) l.fn.table) (lent l.batch.items) 0)

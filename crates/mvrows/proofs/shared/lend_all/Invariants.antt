use Rattle.std.proofs.Common.{◌≡◌, take}
use Rattle.mvrows.specs.HeldRows.{rows_held}
use Rattle.mvrows.proofs.shared.lend_all.Given as goal

-- the tables so far
abbrev pub invariant-loop-table : goal.invariant-loop-table
invariant-loop-table g l = rows_held l.lent.items ≡ rows_held (take l.table-index l.tables)

use Rattle.std.proofs.Common.{◌≡◌, ◌++◌}
use Rattle.mvrows.specs.Installing.{opened}
use Rattle.mvrows.specs.HeldRows.{rows_held}
use Rattle.mvrows.proofs.rows.open_tables.Given as goal

-- the tables so far, and those to come
abbrev pub invariant-loop-rows : goal.invariant-loop-rows
invariant-loop-rows g l = rows_held l.opening.items ++ opened l.rows-iterator.rest.items ≡ opened l.fn.tables

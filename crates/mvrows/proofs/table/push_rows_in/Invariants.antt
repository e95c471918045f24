use Rattle.std.proofs.Common.{◌≡◌, ◌≤◌, ◌++◌, drop, length, take}
use Rattle.schema.specs.Rows.{rows_within}
use Rattle.schema.specs.Walking.{lent}
use Rattle.mvrows.specs.Versions.{shown_rows}
use Rattle.mvrows.specs.HeldRows.{rows_in}
use Rattle.mvrows.proofs.table.push_rows_in.Given as goal

-- the rows so far, and those of the pages left; there are no more than are wanted
abbrev pub invariant-loop-leaf : goal.invariant-loop-leaf
invariant-loop-leaf g l =
    (take l.most (lent l.rows.items ++ rows_within (shown_rows l.snapshot (rows_in (drop l.leaf-index l.leaves))) l.bound) ≡ take l.most (lent l.fn.rows.items ++ rows_within (shown_rows l.snapshot (rows_in l.leaves)) l.bound))
    × (length l.rows.items ≤ l.most)

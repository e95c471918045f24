use Rattle.std.proofs.Common.{◌≡◌, ◌≤◌, ◌++◌, drop, length, take}
use Rattle.schema.specs.Paged.{joined}
use Rattle.schema.specs.Rows.{rows_within}
use Rattle.schema.specs.Walking.{lent}
use Rattle.schema.proofs.table.push_rows_in.Given as goal

-- the rows so far, and those of the pages left; there are no more than are wanted
abbrev pub invariant-loop-page : goal.invariant-loop-page
invariant-loop-page g l =
    (take l.most (lent l.rows.items ++ rows_within (joined (drop l.page-index l.pages)) l.bound) ≡ take l.most (lent l.fn.rows.items ++ rows_within (joined l.pages) l.bound))
    × (length l.rows.items ≤ l.most)

use Rattle.std.proofs.Common.{◌≡◌, ◌≤◌, ◌++◌, drop, length, take}
use Rattle.schema.specs.Walking.{lent}
use Rattle.schema.proofs.table.page.push_all.Given as goal

-- the rows so far, and those left; there are no more than are wanted
abbrev pub invariant-loop-row : goal.invariant-loop-row
invariant-loop-row g l = (take l.most (lent l.rows.items ++ drop l.row-index l.page) ≡ take l.most (lent l.fn.rows.items ++ l.page)) × (length l.rows.items ≤ l.most)

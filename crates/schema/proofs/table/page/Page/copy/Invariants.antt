use Rattle.std.proofs.Common.{◌≡◌, take}
use Rattle.schema.proofs.table.page.Page.copy.Given as goal

-- the rows so far
abbrev pub invariant-loop-row : goal.invariant-loop-row
invariant-loop-row g l = l.rows.items ≡ take l.row-index l.row-items

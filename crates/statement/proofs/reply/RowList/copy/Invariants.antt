use Rattle.std.proofs.Common.{◌≡◌, take}
use Rattle.statement.proofs.reply.RowList.copy.Given as goal

-- those copied so far
abbrev pub invariant-loop-row : goal.invariant-loop-row
invariant-loop-row g l = l.rows.items ≡ take l.row-index l.row-items

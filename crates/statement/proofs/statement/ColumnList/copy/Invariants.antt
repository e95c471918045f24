use Rattle.std.proofs.Common.{◌≡◌, take}
use Rattle.statement.proofs.statement.ColumnList.copy.Given as goal

-- those copied so far
abbrev pub invariant-loop-column : goal.invariant-loop-column
invariant-loop-column g l = l.columns.items ≡ take l.column-index l.column-items

use Rattle.std.proofs.Common.{◌≡◌, take}
use Rattle.statement.proofs.values.Values.copy.Given as goal

-- those copied so far
abbrev pub invariant-loop-value : goal.invariant-loop-value
invariant-loop-value g l = l.values.items ≡ take l.value-index l.value-items

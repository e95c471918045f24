use Rattle.std.proofs.Common.{◌≡◌, take}
use Rattle.statement.proofs.condition.Conditions.copy.Given as goal

-- those copied so far
abbrev pub invariant-loop-condition : goal.invariant-loop-condition
invariant-loop-condition g l = l.conditions.items ≡ take l.condition-index l.condition-items

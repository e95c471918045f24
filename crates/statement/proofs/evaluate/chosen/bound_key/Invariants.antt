use Rattle.std.proofs.Common.{◌≡◌, true, take}
use Rattle.std.specs.List.{list_all}
use Rattle.statement.specs.Walk.{bounds_key}
use Rattle.statement.proofs.evaluate.chosen.bound_key.Given as goal

-- the conditions so far bound the key
abbrev pub invariant-loop-condition : goal.invariant-loop-condition
invariant-loop-condition g l = list_all bounds_key (take l.condition-index l.conditions) ≡ true

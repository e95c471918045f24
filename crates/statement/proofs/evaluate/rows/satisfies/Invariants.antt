use Rattle.std.proofs.Common.{◌≡◌, true, take}
use Rattle.std.specs.List.{list_all}
use Rattle.statement.specs.Conditions.{holds}
use Rattle.statement.proofs.evaluate.rows.satisfies.Given as goal

-- the row meets the conditions so far
abbrev pub invariant-loop-condition : goal.invariant-loop-condition
invariant-loop-condition g l = list_all (holds l.row) (take l.condition-index l.conditions) ≡ true

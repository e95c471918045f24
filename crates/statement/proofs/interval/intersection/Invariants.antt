use Rattle.std.proofs.Common.{◌≡◌, ◌≤◌, drop, length}
use Rattle.statement.specs.Footprint.{intersection}
use Rattle.statement.proofs.interval.intersection.Given as goal

-- what the last conditions leave
abbrev pub invariant-loop-left : goal.invariant-loop-left
invariant-loop-left g l = (l.left ≤ length l.conditions) × (l.met ≡ intersection (drop l.left l.conditions))

abbrev pub decreases-loop-left : goal.decreases-loop-left
decreases-loop-left g l = l.left

use Rattle.std.proofs.Common.{◌≡◌, ◌-◌, ◌≤◌, length, take}
use Rattle.explore.proofs.trail.common.Given as goal

-- the turns so far are alike
abbrev pub invariant-loop-turns : goal.invariant-loop-turns
invariant-loop-turns l = (take l.turns l.order ≡ take l.turns l.other) × (l.turns ≤ length l.order) × (l.turns ≤ length l.other)

abbrev pub decreases-loop-turns : goal.decreases-loop-turns
decreases-loop-turns l = length l.order - l.turns

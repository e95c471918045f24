use Rattle.std.proofs.Common.{◌-◌, ◌≤◌, length}
use Rattle.orders.specs.Turns.{AreLate}
use Rattle.orders.proofs.time.skip_late.Given as goal

-- those so far begin too late
abbrev pub invariant-loop-place : goal.invariant-loop-place
invariant-loop-place g l = (l.from ≤ l.place) × AreLate l.recorded l.end l.from l.place

abbrev pub decreases-loop-place : goal.decreases-loop-place
decreases-loop-place g l = length l.recorded - l.place

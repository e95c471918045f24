use Rattle.std.proofs.Common.{◌-◌, length}
use Rattle.orders.proofs.TimeLemmas.{IsLeastOf}
use Rattle.orders.proofs.time.least_end.Given as goal

-- the least end of those so far
abbrev pub invariant-loop-place : goal.invariant-loop-place
invariant-loop-place g l = IsLeastOf l.recorded l.done l.place l.least

abbrev pub decreases-loop-place : goal.decreases-loop-place
decreases-loop-place g l = length l.flags - l.place

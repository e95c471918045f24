use Rattle.std.proofs.Common.{◌-◌}
use Rattle.orders.specs.Walks.{IsPath}
use Rattle.orders.proofs.near.follow.Given as goal

-- the transactions that are done may come one after the other, from whatever tables on
abbrev pub invariant-loop-steps : goal.invariant-loop-steps
invariant-loop-steps g l = (X : _) → IsPath l.catalog X l.recorded l.initial.walk → IsPath l.catalog X l.recorded l.walk

abbrev pub decreases-loop-steps : goal.decreases-loop-steps
decreases-loop-steps g l = l.most - l.steps

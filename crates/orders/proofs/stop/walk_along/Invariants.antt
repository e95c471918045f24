use Rattle.orders.specs.Walks.{IsPath}
use Rattle.orders.proofs.stop.walk_along.Given as goal

-- the transactions that are done may come one after the other, from whatever tables on
abbrev pub invariant-loop-place : goal.invariant-loop-place
invariant-loop-place g l = (X : _) → IsPath l.catalog X l.recorded l.initial.walk → IsPath l.catalog X l.recorded l.walk

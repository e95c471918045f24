use Rattle.orders.specs.Walks.{IsPath}
use Rattle.orders.proofs.guided.go_all.Given as goal

-- the transactions that are done may come one after the other, from whatever tables on
abbrev pub invariant-loop : goal.invariant-loop
invariant-loop g l = (X : _) → IsPath l.catalog X l.recorded l.initial.walk → IsPath l.catalog X l.recorded l.walk

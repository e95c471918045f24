use Rattle.orders.specs.Seen.{AreDead}
use Rattle.orders.specs.Walks.{IsWalk}
use Rattle.orders.proofs.search.advance_all.Given as goal

-- what the search knows, from whatever tables on, and what it remembers
abbrev pub invariant-loop : goal.invariant-loop
invariant-loop g l = ((X : _) → IsWalk l.catalog X l.recorded l.initial.walk → IsWalk l.catalog X l.recorded l.walk) × AreDead l.catalog l.recorded l.memory

use Rattle.std.proofs.Common.{◌≡◌, map, take}
use Rattle.orders.proofs.walk.Walk.places.Given as goal

abbrev pub invariant-loop-passed : goal.invariant-loop-passed
invariant-loop-passed g l = l.places.items ≡ map (λ p. p.place) (take l.passed-index l.passed-items)

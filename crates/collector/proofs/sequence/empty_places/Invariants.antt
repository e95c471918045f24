use Rattle.collector.specs.Gathered.{NoneWaits}
use Rattle.collector.proofs.sequence.empty_places.Given as goal

abbrev pub invariant-loop : goal.invariant-loop
invariant-loop g l = NoneWaits l.counter l.places.items

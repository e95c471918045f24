use Rattle.std.proofs.Common.{◌+◌, ℕ, List, Option, sym, subst}
use Rattle.collector.specs.Gathered.{NoneWaits}
use Rattle.collector.proofs.GatheredLemmas.{none_waits_push}
use Rattle.collector.proofs.sequence.empty_places.Goals as goal

pub loop-preserved : goal.loop-preserved
loop-preserved g c = subst (λ (places : List (Option (List ℕ))). NoneWaits (c.loop.counter + 1) places) (sym c.in_ok-push.ensures.items) (none_waits_push c.loop.counter c.loop.places.items c.loop.invariant)

use Rattle.orders.proofs.RecordedLemmas.{begins-more}
use Rattle.orders.proofs.recorded.earliest_begins.Goals as goal

pub loop-place-preserved : goal.loop-place-preserved
loop-place-preserved g c = begins-more c.args.transactions.now c.loop-place.place c.earliest_at.result c.loop-place.begins.items c.push.new.self.items c.loop-place.invariant c.earliest_at.ensures c.in_ok-push.ensures.items

use Rattle.std.proofs.Common.{◌∙◌, ◌-◌, ap, min, refl, arith}
use Rattle.orders.proofs.RecordedLemmas.{one-from}
use Rattle.orders.proofs.recorded.least_ends.Goals as goal

pub loop-place-preserved : goal.loop-place-preserved
loop-place-preserved g c =
    one-from c.args.transactions.now c.loop-place.place (c.loop-place.place - 1) c.loop-place.least c.min-least.result c.loop-place.ends.items _ (omega (arith, c.loop-place-test.true)) c.loop-place.invariant
    (c.min-least.ensures ∙ ap (min c.loop-place.least) c.end_at.ensures) refl

use Rattle.std.proofs.Common.{◌∙◌, ◌-◌, ap, min, refl, arith}
use Rattle.orders.proofs.RecordedLemmas.{one-begins}
use Rattle.orders.proofs.recorded.earliest_of_rest.Goals as goal

pub loop-place-preserved : goal.loop-place-preserved
loop-place-preserved g c =
    one-begins c.args.transactions.now c.loop-place.place (c.loop-place.place - 1) c.loop-place.earliest c.min-earliest.result c.loop-place.begins.items _ (omega (arith, c.loop-place-test.true)) c.loop-place.invariant
    (c.min-earliest.ensures ∙ ap (min c.loop-place.earliest) c.begin_at.ensures) refl

use Rattle.std.proofs.Common.{◌∙◌, ap, min, arith}
use Rattle.orders.proofs.RecordedLemmas.{earliest-more}
use Rattle.orders.proofs.recorded.earliest_at.Goals as goal

pub loop-place-init : goal.loop-place-init
loop-place-init g c = λ j f l. absurd (omega (arith, f, l))

pub loop-place-preserved : goal.loop-place-preserved
loop-place-preserved g c =
    earliest-more c.args.transactions.now c.args.from c.loop-place.place c.loop-place.earliest c.min-earliest.result c.loop-place.invariant
    (c.min-earliest.ensures ∙ ap (min c.loop-place.earliest) c.begin_at.ensures)

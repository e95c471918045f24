use Rattle.std.proofs.Common.{◌∙◌, sym, ap, subst, slice_get, ◌<◌, length, arith}
use Rattle.orders.specs.Turns.{settled}
use Rattle.orders.proofs.TimeLemmas.{all-settled, next-settled, not-settled, settled-set}
use Rattle.orders.proofs.time.is_complete.Goals as goal

pub loop-place-init : goal.loop-place-init
loop-place-init g c = λ j l. settled-set c.args.recorded.now c.args.done.now c.first-place.result j c.first-place.ensures l

pub loop-place-preserved : goal.loop-place-preserved
loop-place-preserved g c =
    next-settled c.args.recorded.now c.args.done.now c.loop-place.place c.loop-place.invariant
    (ap (λ ts. settled (slice_get ts c.loop-place.place) (slice_get c.args.done.now c.loop-place.place)) (sym c.transactions-transactions.ensures)
    ∙ ap (λ d. settled (slice_get c.transactions-transactions.result.now c.loop-place.place) (slice_get d c.loop-place.place)) (sym c.as_slice-flags.ensures)
    ∙ sym c.settled_at.ensures
    ∙ c.if-not-settled_at.false)

pub returns-then-not-settled_at : goal.returns-then-not-settled_at
returns-then-not-settled_at g c =
    sym (not-settled c.args.recorded.now c.args.done.now c.loop-place.place
    (ap (λ ts. settled (slice_get ts c.loop-place.place) (slice_get c.args.done.now c.loop-place.place)) (sym c.transactions-transactions.ensures)
    ∙ ap (λ d. settled (slice_get c.transactions-transactions.result.now c.loop-place.place) (slice_get d c.loop-place.place)) (sym c.as_slice-flags.ensures)
    ∙ sym c.settled_at.ensures
    ∙ c.if-not-settled_at.true))

pub returns : goal.returns
returns g c =
    sym (all-settled c.args.recorded.now c.args.done.now
    (λ j l. let k : j < length c.transactions-transactions.result.now = subst (λ ts. j < length ts) (sym c.transactions-transactions.ensures) l in c.loop-place.invariant j (omega (arith, k, c.loop-place-test.false))))

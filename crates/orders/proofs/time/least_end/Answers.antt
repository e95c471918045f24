use Rattle.std.proofs.Common.{◌∙◌, ap, slice_get, subst, ◌≤◌, length, arith}
use Rattle.orders.proofs.TimeLemmas.{least-all, least-first, least-more, least-rest}
use Rattle.orders.specs.Turns.{end_at, lesser_end}
use Rattle.orders.proofs.time.least_end.Goals as goal

pub loop-place-init : goal.loop-place-init
loop-place-init g c = least-first c.args.recorded.now c.args.done.now c.first-place.result c.first-place.ensures

pub loop-place-preserved : goal.loop-place-preserved
loop-place-preserved g c =
    least-more c.args.recorded.now c.args.done.now c.loop-place.place c.loop-place.least c.lesser_end-least.result c.loop-place.invariant
    (c.lesser_end-least.ensures
    ∙ ap (λ d. lesser_end (slice_get d c.loop-place.place) c.end_at-end.result c.loop-place.least) c.as_slice-flags.ensures
    ∙ ap (λ e. lesser_end (slice_get c.args.done.now c.loop-place.place) e c.loop-place.least) (c.end_at-end.ensures ∙ ap (λ ts. end_at (slice_get ts c.loop-place.place)) c.transactions-transactions.ensures))

pub returns-then-least-least_from : goal.returns-then-least-least_from
returns-then-least-least_from g c = least-rest c.args.recorded.now c.args.done.now c.loop-place.place c.loop-place.least c.least_from.result c.loop-place.invariant c.least_from.ensures (omega (arith, c.if-least-least_from.true))

pub returns : goal.returns
returns g c =
    least-all c.args.recorded.now c.args.done.now c.loop-place.place c.loop-place.least
    (subst (λ d. length d ≤ c.loop-place.place) c.as_slice-flags.ensures (omega (arith, c.loop-place-test.false))) c.loop-place.invariant

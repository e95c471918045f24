use Rattle.std.proofs.Common.{◌∙◌, sym, ap, subst, ◌≤◌, length, arith}
use Rattle.orders.specs.Turns.{comes}
use Rattle.orders.proofs.TimeLemmas.{late-none, none-late, none-more}
use Rattle.orders.proofs.time.find_from.Goals as goal

pub loop-place-init : goal.loop-place-init
loop-place-init g c = late-none c.args.recorded.now c.args.done.now c.args.least c.args.from c.skip_late-place.result c.requires c.skip_late-place.ensures.late

pub loop-place-preserved : goal.loop-place-preserved
loop-place-preserved g c =
    none-late c.args.recorded.now c.args.done.now c.args.least c.args.from c.loop-place.place c.skip_late-place-in-loop-place.result c.requires
    (ap (λ ts. comes ts c.args.done.now c.loop-place.place) (sym c.transactions-transactions.ensures)
    ∙ ap (λ d. comes c.transactions-transactions.result.now d c.loop-place.place) (sym c.as_slice-flags.ensures)
    ∙ sym c.comes.ensures
    ∙ c.if-comes.false)
    c.skip_late-place-in-loop-place.ensures.late c.loop-place.invariant

pub returns-clause-none : goal.returns-clause-none
returns-clause-none g c =
    none-more c.args.recorded.now c.args.done.now c.args.from c.loop-place.place
    (subst (λ ts. length ts ≤ c.loop-place.place) c.transactions-transactions.ensures (omega (arith, c.loop-place-test.false))) c.loop-place.invariant

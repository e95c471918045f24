use Rattle.std.proofs.Common.{◌∙◌, sym, ap, slice_get, Some}
use Rattle.value.proofs.Basics.{slice_get_item}
use Rattle.orders.specs.Turns.{settled}
use Rattle.orders.proofs.TimeLemmas.{settled-past, settled-past-done}
use Rattle.orders.proofs.time.settled_at.Goals as goal

pub returns-in-Some-get : goal.returns-in-Some-get
returns-in-Some-get g c =
    c.is_settled.ensures
    ∙ sym (ap (λ o. settled o (slice_get c.args.done.now c.args.place)) (slice_get_item c.args.transactions.now c.args.place c.in-Some.transaction.now c.in-Some.ensures.lookup.3.0 c.in-Some.ensures.lookup.1)
    ∙ ap (λ o. settled (Some c.in-Some.transaction.now) o) (slice_get_item c.args.done.now c.args.place c.in-Some-get.is_done.now c.in-Some-get.ensures.lookup.3.0 c.in-Some-get.ensures.lookup.1))

pub returns-in-None-get : goal.returns-in-None-get
returns-in-None-get g c = settled-past-done c.args.transactions.now c.args.done.now c.args.place c.in-None-get.ensures.lookup.3

pub returns-in-None : goal.returns-in-None
returns-in-None g c = settled-past c.args.transactions.now c.args.done.now c.args.place c.in-None.ensures.lookup.3

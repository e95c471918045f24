use Rattle.std.proofs.Common.{◌∙◌, sym, ap}
use Rattle.value.proofs.Basics.{slice_get_item}
use Rattle.orders.specs.Turns.{end_at, end_or_last}
use Rattle.orders.proofs.TimeLemmas.{end-past}
use Rattle.orders.proofs.recorded.end_at.Goals as goal

pub returns-in-Some : goal.returns-in-Some
returns-in-Some g c =
    c.end_or_last.ensures
    ∙ ap (λ t. end_or_last t.end) c.transaction.view_is
    ∙ sym (ap end_at (slice_get_item c.args.transactions.now c.args.place c.in-Some.transaction.now c.in-Some.ensures.lookup.3.0 c.in-Some.ensures.lookup.1))

pub returns-in-None : goal.returns-in-None
returns-in-None g c = end-past c.args.transactions.now c.args.place c.in-None.ensures.lookup.3

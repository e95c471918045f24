use Rattle.std.proofs.Common.{◌∙◌, sym, ap, slice_get}
use Rattle.value.proofs.Basics.{slice_get_item}
use Rattle.orders.proofs.WalkLemmas.{fit-at}
use Rattle.orders.proofs.stop.hindered_at.Goals as goal

pub hindrance_of-requires-clause-fits : goal.hindrance_of-requires-clause-fits
hindrance_of-requires-clause-fits g c = fit-at c.args.catalog.now c.args.recorded.now c.args.recorded.now c.args.place c.in-Some.transaction.now c.requires.fit (ap (λ ts. slice_get ts c.args.place) (sym c.transactions.ensures) ∙ slice_get_item c.transactions.result.now c.args.place c.in-Some.transaction.now c.in-Some.ensures.lookup.3.0 c.in-Some.ensures.lookup.1)

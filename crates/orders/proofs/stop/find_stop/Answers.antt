use Rattle.std.proofs.Common.{sym, subst}
use Rattle.orders.specs.Walks.{IsPath}
use Rattle.orders.proofs.WalkLemmas.{begin-path}
use Rattle.orders.proofs.stop.find_stop.Goals as goal

pub stop_along-requires-clause-from : goal.stop_along-requires-clause-from
stop_along-requires-clause-from g c = (
  c.args.tables.now,
  c.requires.sound,
  subst (λ ts. IsPath c.args.catalog.now c.args.tables.now ts c.in_ok-walk.walk) (sym c.in_ok-recorded.ensures.ok)
      (begin-path c.args.catalog.now c.args.tables.now c.args.transactions.now c.in_ok-walk.walk c.in_ok-walk.ensures.ok),
)

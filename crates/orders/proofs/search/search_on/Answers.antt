use Rattle.std.proofs.Common.{sym, subst, IfSome}
use Rattle.orders.specs.Explains.{Explains}
use Rattle.orders.specs.Found.{Tells}
use Rattle.orders.proofs.search.search_on.Goals as goal

pub returns-in-Some-clause-ok : goal.returns-in-Some-clause-ok
returns-in-Some-clause-ok g c =
    subst (Tells c.args.catalog.now c.args.tables.now c.args.recorded.now) (sym c.found_order.ensures)
    (subst (λ o. IfSome o (λ order. Explains c.args.catalog.now c.args.tables.now c.args.recorded.now order.items)) c.in-Some.is c.in_ok-near.ensures.explains)

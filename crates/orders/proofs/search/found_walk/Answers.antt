use Rattle.std.proofs.Common.{sym, subst}
use Rattle.orders.specs.Explains.{Explains}
use Rattle.orders.specs.Found.{Tells}
use Rattle.orders.proofs.search.found_walk.Goals as goal

pub returns-clause-ok : goal.returns-clause-ok
returns-clause-ok g c = λ k X ts e. subst (Tells k X ts) (sym c.found_order.ensures) (subst (Explains k X ts) (sym c.in_ok-order.ensures.ok) e)

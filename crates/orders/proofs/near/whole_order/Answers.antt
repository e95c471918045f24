use Rattle.std.proofs.Common.{◌∙◌, sym, ap, subst}
use Rattle.orders.specs.Explains.{Explains}
use Rattle.orders.specs.Turns.{are_done}
use Rattle.orders.proofs.WalkLemmas.{path-explains}
use Rattle.orders.proofs.near.whole_order.Goals as goal

pub returns-clause-explains : goal.returns-clause-explains
returns-clause-explains g c = λ k X p.
    subst (λ o. Explains k X c.args.recorded.now o) (sym c.in_ok-order.ensures.ok)
    (path-explains k X c.args.recorded.now c.args.walk.now p (ap (are_done c.args.recorded.now) (sym c.done.ensures) ∙ sym c.is_complete.ensures ∙ c.if-not-is_complete.false))

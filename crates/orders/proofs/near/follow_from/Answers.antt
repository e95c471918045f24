use Rattle.orders.proofs.near.follow_from.Goals as goal

pub returns-clause-explains : goal.returns-clause-explains
returns-clause-explains g c = λ X p. c.in_ok-order.ensures.explains c.args.catalog.now X (c.in_ok-steps.ensures.path X p)

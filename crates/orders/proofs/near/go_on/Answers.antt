use Rattle.value.proofs.Basics.{IfOk_then}
use Rattle.orders.proofs.near.go_on.Goals as goal

pub returns-in_default-clause-path : goal.returns-in_default-clause-path
returns-in_default-clause-path g c = λ X p. p

pub returns-then-branch-clause-path : goal.returns-then-branch-clause-path
returns-then-branch-clause-path g c = c.in_ok-go_next.ensures.path

pub returns-clause-path : goal.returns-clause-path
returns-clause-path g c = IfOk_then c.let_before.result c.let_before.ensures.path (λ b h X p. h c.args.catalog.now X (c.in_ok-go_next.ensures.path X p))

use Rattle.std.proofs.Common.{subst}
use Rattle.orders.specs.Walks.{HasPopped}
use Rattle.orders.proofs.WalkLemmas.{popped-back, popped-none}
use Rattle.orders.proofs.walk.Walk.take_back.Goals as goal

pub returns-in_ok-place-in-Some-clause-ok : goal.returns-in_ok-place-in-Some-clause-ok
returns-in_ok-place-in-Some-clause-ok g c =
    popped-back c.args.self.now c.pop.new.self c.undo.new.self c.in-Some.passed c.in_ok-place-in-Some.place (subst (λ o. HasPopped c.args.self.now o c.pop.new.self) c.in-Some.is c.pop.ensures) c.in_ok-place-in-Some.ensures.ok

pub returns-in-None-clause-ok : goal.returns-in-None-clause-ok
returns-in-None-clause-ok g c = popped-none c.args.self.now c.pop.new.self (subst (λ o. HasPopped c.args.self.now o c.pop.new.self) c.in-None.is c.pop.ensures)

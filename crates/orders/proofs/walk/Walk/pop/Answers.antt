use Rattle.orders.proofs.PopLemmas.{popped}
use Rattle.orders.proofs.walk.Walk.pop.Goals as goal

pub returns : goal.returns
returns g c = popped c.args.self.now c.pop.new.self.items c.in-Some.passed c.self.view_is c.in-Some.ensures.items

use Rattle.orders.proofs.WalkLemmas.{path-back}
use Rattle.orders.proofs.guided.step_back.Goals as goal

pub returns-clause-path : goal.returns-clause-path
returns-clause-path g c = λ k X p. path-back k X c.args.recorded.now c.args.walk.now c.take_back.new.self c.in_ok-_taken._taken c.in_ok-_taken.ensures.ok p

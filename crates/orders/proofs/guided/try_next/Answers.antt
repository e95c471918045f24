use Rattle.orders.proofs.WalkLemmas.{path-back}
use Rattle.orders.proofs.guided.try_next.Goals as goal

pub returns-clause-path : goal.returns-clause-path
returns-clause-path g c = λ X p.
    path-back c.args.catalog.now X c.args.recorded.now c.go_next.new.walk c.take_back.new.self c.in_ok-_taken._taken c.in_ok-_taken.ensures.ok (c.in_ok-go_next.ensures.path X p)

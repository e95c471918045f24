use Rattle.orders.proofs.WalkLemmas.{path-sound}
use Rattle.orders.proofs.guided.go_all.Goals as goal

pub loop-init : goal.loop-init
loop-init g c = λ X p. p

pub step-requires-clause-sound : goal.step-requires-clause-sound
step-requires-clause-sound g c =
    path-sound c.args.catalog.now c.requires.from.0 c.args.recorded.now c.loop.walk c.requires.fit c.requires.from.1 (c.loop.invariant c.requires.from.0 c.requires.from.2)

pub loop-preserved : goal.loop-preserved
loop-preserved g c = λ X p. c.in_ok-step.ensures.path X (c.loop.invariant X p)

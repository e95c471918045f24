use Rattle.orders.proofs.WalkLemmas.{path-sound}
use Rattle.orders.proofs.near.follow.Goals as goal

pub loop-steps-init : goal.loop-steps-init
loop-steps-init g c = λ X p. p

pub go_on-requires-clause-sound : goal.go_on-requires-clause-sound
go_on-requires-clause-sound g c =
    path-sound c.args.catalog.now c.requires.from.0 c.args.recorded.now c.loop-steps.walk c.requires.fit c.requires.from.1 (c.loop-steps.invariant c.requires.from.0 c.requires.from.2)

pub loop-steps-preserved : goal.loop-steps-preserved
loop-steps-preserved g c = λ X p. c.in_ok-go_on.ensures.path X (c.loop-steps.invariant X p)

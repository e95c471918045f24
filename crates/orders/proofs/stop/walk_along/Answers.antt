use Rattle.orders.proofs.WalkLemmas.{path-sound}
use Rattle.orders.proofs.stop.walk_along.Goals as goal

pub loop-place-init : goal.loop-place-init
loop-place-init g c = λ X p. p

pub go_next-requires-clause-sound : goal.go_next-requires-clause-sound
go_next-requires-clause-sound g c =
    path-sound c.args.catalog.now c.requires.from.0 c.args.recorded.now c.loop-place.walk c.requires.fit c.requires.from.1 (c.loop-place.invariant c.requires.from.0 c.requires.from.2)

pub returns-clause-sound : goal.returns-clause-sound
returns-clause-sound g c =
    path-sound c.args.catalog.now c.requires.from.0 c.args.recorded.now c.loop-place.walk c.requires.fit c.requires.from.1 (c.loop-place.invariant c.requires.from.0 c.requires.from.2)

pub loop-place-preserved : goal.loop-place-preserved
loop-place-preserved g c = λ X p. c.in_ok-go_next.ensures.path X (c.loop-place.invariant X p)

pub returns-then-not-branch-clause-sound : goal.returns-then-not-branch-clause-sound
returns-then-not-branch-clause-sound g c =
    path-sound c.args.catalog.now c.requires.from.0 c.args.recorded.now c.go_next.new.walk c.requires.fit c.requires.from.1
    (c.in_ok-go_next.ensures.path c.requires.from.0 (c.loop-place.invariant c.requires.from.0 c.requires.from.2))

use Rattle.std.proofs.Common.{subst}
use Rattle.orders.specs.Found.{HasGone}
use Rattle.orders.proofs.WalkLemmas.{walk-sound}
use Rattle.orders.proofs.search.advance_all.Goals as goal

pub loop-init : goal.loop-init
loop-init g c = (λ X w. w, c.requires.dead)

pub advance-requires-clause-sound : goal.advance-requires-clause-sound
advance-requires-clause-sound g c =
    walk-sound c.args.catalog.now c.requires.from.0 c.args.recorded.now c.loop.walk c.requires.fit c.requires.from.1 (c.loop.invariant.0 c.requires.from.0 c.requires.from.2)

pub returns-in-Found-clause-ok : goal.returns-in-Found-clause-ok
returns-in-Found-clause-ok g c = λ X w.
    subst (λ p. HasGone c.args.catalog.now X c.args.recorded.now p c.advance.new.walk) c.in-Found.is (c.in_ok-advance.ensures.ok X (c.loop.invariant.0 X w) c.loop.invariant.1)

pub returns-in-Exhausted-clause-ok : goal.returns-in-Exhausted-clause-ok
returns-in-Exhausted-clause-ok g c = λ X w.
    subst (λ p. HasGone c.args.catalog.now X c.args.recorded.now p c.advance.new.walk) c.in-Exhausted.is (c.in_ok-advance.ensures.ok X (c.loop.invariant.0 X w) c.loop.invariant.1)

pub loop-preserved : goal.loop-preserved
loop-preserved g c = (
  λ X w. subst (λ p. HasGone c.args.catalog.now X c.args.recorded.now p c.advance.new.walk) c.in-More.is (c.in_ok-advance.ensures.ok X (c.loop.invariant.0 X w) c.loop.invariant.1),
  c.in_ok-advance.ensures.remembers c.requires.from.0 (c.loop.invariant.0 c.requires.from.0 c.requires.from.2) c.loop.invariant.1,
)

pub returns-clause-ok : goal.returns-clause-ok
returns-clause-ok g c = λ X w. c.loop.invariant.0 X w

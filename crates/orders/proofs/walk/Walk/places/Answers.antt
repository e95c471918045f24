use Rattle.std.proofs.Common.{◌∙◌, ap}
use Rattle.orders.proofs.PopLemmas.{places-all, places-more}
use Rattle.orders.proofs.walk.Walk.places.Goals as goal

pub loop-passed-preserved : goal.loop-passed-preserved
loop-passed-preserved g c =
    places-more c.deref-passed-items.result.now c.loop-passed.passed-index c.passed-item.result c.passed.inside.place c.loop-passed.places.items c.push.new.self.items c.loop-passed-test.true c.passed-item.is (ap (λ p. p.place) c.passed.view_is)
    c.loop-passed.invariant c.in_ok-push.ensures.items

pub returns-clause-ok : goal.returns-clause-ok
returns-clause-ok g c =
    places-all c.args.self.now.path c.deref-passed-items.result.now c.loop-passed.passed-index c.loop-passed.places.items c.loop-passed-test.false c.loop-passed.auto.passed-index-end c.loop-passed.invariant (c.deref-passed-items.ensures.value ∙ ap (λ w. w.path) c.self.view_is)

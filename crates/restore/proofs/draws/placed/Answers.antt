use Rattle.std.proofs.Common.{arith, ◌∷◌, ◌∙◌, IfOk, subst, sym, ap}
use Rattle.restore.specs.Rows.{AreDrawn, AreAllDrawn}
use Rattle.restore.proofs.taking.Drawn.{all_first}
use Rattle.restore.proofs.draws.placed.Goals as goal

pub loop-made-init : goal.loop-made-init
loop-made-init g c = (
  omega (arith, c.in_ok-places.places.ok.0, c.in_ok-places.ensures.count),
  λ known columns kinds lines all. (c.in_ok-places.ensures.empty known columns kinds lines, subst (AreAllDrawn known columns kinds lines) (sym c.into_iter-made-iterator.ensures.into_iter_gives.0) all),
)

pub loop-made-preserved : goal.loop-made-preserved
loop-made-preserved g c = (
  c.put_drawn.ensures.count ∙ c.loop-made.invariant.0,
  λ known columns kinds lines all.
      let before = c.loop-made.invariant.1 known columns kinds lines all in
      let is = c.in-Some.ensures.steps.0 ∙ ap (λ d. d ∷ c.next.new.self.rest.items) c.in_ok-drawn.was in
      let next = all_first (λ r. IfOk r (λ d. AreDrawn known columns kinds lines d.items)) c.loop-made.made-iterator.rest.items c.next.new.self.rest.items _ is before.1 in
      (c.put_drawn.ensures.at known columns kinds lines next.0 before.0, next.1),
)

pub returns-clause-at : goal.returns-clause-at
returns-clause-at g c = λ known columns kinds lines all. (c.loop-made.invariant.1 known columns kinds lines all).0

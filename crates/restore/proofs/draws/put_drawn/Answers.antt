use Rattle.std.proofs.Common.{◌∙◌, refl, subst, sym}
use Rattle.restore.specs.Rows.{IsPiece, AreDrawn, lines_at}
use Rattle.restore.proofs.taking.Drawn.{all_first}
use Rattle.restore.proofs.draws.put_drawn.Goals as goal

pub loop-piece-init : goal.loop-piece-init
loop-piece-init g c = (refl, λ known columns kinds lines drawn at. (at, subst (AreDrawn known columns kinds lines) (sym c.into_iter-piece-iterator.ensures.into_iter_gives.0) drawn))

pub loop-piece-preserved : goal.loop-piece-preserved
loop-piece-preserved g c = (
  c.put_piece.ensures.count ∙ c.loop-piece.invariant.0,
  λ known columns kinds lines drawn at.
      let before = c.loop-piece.invariant.1 known columns kinds lines drawn at in
      let next = all_first (λ d. IsPiece known columns kinds d.piece (lines_at lines d.place)) c.loop-piece.piece-iterator.rest.items c.next.new.self.rest.items c.in-Some.piece c.in-Some.ensures.steps.0 before.1 in
      (c.put_piece.ensures.at known columns kinds lines next.0 before.0, next.1),
)

pub returns-clause-at : goal.returns-clause-at
returns-clause-at g c = λ known columns kinds lines drawn at. (c.loop-piece.invariant.1 known columns kinds lines drawn at).0

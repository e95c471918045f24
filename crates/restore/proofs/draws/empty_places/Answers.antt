use Rattle.std.proofs.Common.{◌+◌, ◌∷◌, ◌∙◌, [], None, length, ap, arith}
use Rattle.std.proofs.lemmas.List.{length-append}
use Rattle.restore.proofs.taking.Drawn.{at-push}
use Rattle.restore.proofs.draws.empty_places.Goals as goal

pub loop-init : goal.loop-init
loop-init g c = let none = ap length c.in_ok-places.ensures.items in (none, λ known columns kinds lines n d lt. absurd (omega (arith, lt, none)))

pub loop-preserved : goal.loop-preserved
loop-preserved g c = (
  ap length c.in_ok-push.ensures.items ∙ length-append c.loop.places.items (None ∷ []) ∙ ap (λ n. n + 1) c.loop.invariant.0,
  λ known columns kinds lines. at-push known columns kinds lines c.loop.places.items c.push.new.self.items c.in_ok-push.ensures.items (c.loop.invariant.1 known columns kinds lines),
)

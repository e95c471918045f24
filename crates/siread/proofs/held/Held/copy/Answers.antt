use Rattle.std.proofs.Common.{sym, subst, ◌∙◌}
use Rattle.siread.specs.Bounds.{AreHeld}
use Rattle.siread.proofs.held.Held.copy.Goals as goal

pub invariant_of-result : goal.invariant_of-result
invariant_of-result g c = subst (AreHeld c.self.inside.settled) (sym (c.in_ok-kept.ensures.ok ∙ c.as_slice.ensures.value)) c.self.invariant

use Rattle.std.proofs.Common.{sym, subst, ◌++◌, ◌∷◌, [], ◌∙◌}
use Rattle.mvrows.specs.Versions.{IsInOrder}
use Rattle.mvrows.proofs.page.Page.push_opened.Goals as goal

pub invariant_of-self-2 : goal.invariant_of-self-2
invariant_of-self-2 g c = subst IsInOrder (sym (c.in_ok-push.ensures.items ∙ (λ i. c.self.view_is i ++ c.opened.ensures i ∷ []))) c.requires

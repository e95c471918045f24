use Rattle.std.proofs.Common.{sym, subst, length, ◌≤◌}
use Rattle.mvrows.proofs.page.Page.cut.Goals as goal

pub cut-requires-clause-two : goal.cut-requires-clause-two
cut-requires-clause-two g c = subst (λ rows. 2 ≤ length rows) (sym c.self.view_is) c.requires

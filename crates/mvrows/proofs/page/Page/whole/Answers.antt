use Rattle.std.proofs.Common.{subst, ◌∙◌}
use Rattle.mvrows.specs.Whole.{IsWhole}
use Rattle.mvrows.proofs.page.Page.whole.Goals as goal

pub returns : goal.returns
returns g c = subst (IsWhole c.whole.result) (c.as_slice.ensures.value ∙ c.self.view_is) c.whole.ensures

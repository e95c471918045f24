use Rattle.std.proofs.Common.{refl, subst, ◌∙◌}
use Rattle.std.specs.List.Sorted.{IsStrictlySortedBy}
use Rattle.schema.specs.Changing.{change_cmp}
use Rattle.transactions.proofs.statements.own.OwnChanges.is_merged.Goals as goal

pub returns : goal.returns
returns g c = λ is. record { by_key = subst (IsStrictlySortedBy change_cmp) (c.as_slice.ensures.value ∙ c.self.view_is) (c.are_by_key.ensures is); keys = λ t k. refl; same = λ X order. refl }

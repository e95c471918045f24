use Rattle.std.proofs.Common.{sym, subst, ◌≡◌, true, false, take, drop, ◌∙◌}
use Rattle.std.specs.List.{AllByRecursion}
use Rattle.std.specs.Ordering.{is_le}
use Rattle.value.specs.Order.{value_cmp}
use Rattle.mvrows.specs.Versions.{KeyVersions, IsInOrder}
use Rattle.mvrows.proofs.page.Page.place.Goals as goal

pub place_near-requires : goal.place_near-requires
place_near-requires g c = subst IsInOrder (sym c.as_slice.ensures.value) c.self.invariant

pub returns-clause-before : goal.returns-clause-before
returns-clause-before g c =
    subst (λ rs. AllByRecursion (λ (k : KeyVersions _). is_le (value_cmp c.args.key.now k.key) ≡ false) (take c.place_near.result rs)) (c.as_slice.ensures.value ∙ c.self.view_is) c.place_near.ensures.before

pub returns-clause-within : goal.returns-clause-within
returns-clause-within g c =
    subst (λ rs. AllByRecursion (λ (k : KeyVersions _). is_le (value_cmp c.args.key.now k.key) ≡ true) (drop c.place_near.result rs)) (c.as_slice.ensures.value ∙ c.self.view_is) c.place_near.ensures.within

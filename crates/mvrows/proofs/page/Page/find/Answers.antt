use Rattle.std.proofs.Common.{ap, sym, subst, ◌∙◌}
use Rattle.std.specs.Prelude.{find}
use Rattle.schema.specs.Plain.{same}
use Rattle.mvrows.specs.Versions.{KeyVersions, IsInOrder}
use Rattle.mvrows.proofs.page.Page.find.Goals as goal

pub find-requires : goal.find-requires
find-requires g c = subst IsInOrder (sym c.as_slice.ensures.value) c.self.invariant

pub returns : goal.returns
returns g c =
    c.find.ensures
    ∙ ap (λ x. find (λ (k : KeyVersions _). same x k.key) c.as_slice.result.now) c.value.ensures.value
    ∙ ap (find (λ (k : KeyVersions _). same c.args.key.now k.key)) (c.as_slice.ensures.value ∙ c.self.view_is)

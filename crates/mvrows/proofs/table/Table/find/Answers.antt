use Rattle.std.proofs.Common.{ap, ◌∙◌}
use Rattle.std.specs.Prelude.{find}
use Rattle.schema.specs.Plain.{same}
use Rattle.mvrows.specs.Versions.{KeyVersions}
use Rattle.mvrows.specs.HeldRows.{rows_in}
use Rattle.mvrows.proofs.table.Table.find.Goals as goal

pub returns : goal.returns
returns g c =
    c.find_among.ensures
    ∙ ap (λ x. find (λ (k : KeyVersions _). same x k.key) (rows_in c.as_slice.result.now)) c.value.ensures.value
    ∙ ap (λ hs. find (λ (k : KeyVersions _). same c.args.key.now k.key) (rows_in hs)) (c.as_slice.ensures.value ∙ c.self.view_is)

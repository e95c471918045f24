use Rattle.std.proofs.Common.{◌∙◌, ap, is_some}
use Rattle.library.proofs.ExploreLemmas.{explores_by_parts}
use Rattle.library.proofs.exploring.said_output.Goals as goal

pub returns : goal.returns
returns g c =
    explores_by_parts c.args.exploration c.args.script _ _ _ c.opened_output.result.end c.opened_output.result.text.items
    (c.is_some.ensures ∙ ap (λ o. is_some o) c.into_parts-catalog.ensures.opens) c.into_parts-catalog.ensures.catalog c.into_parts-catalog.ensures.lines c.opened_output.ensures

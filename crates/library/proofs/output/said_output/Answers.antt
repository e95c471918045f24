use Rattle.std.proofs.Common.{◌∙◌, ap, is_some}
use Rattle.library.proofs.OutputLemmas.{ends_by_parts}
use Rattle.library.proofs.output.said_output.Goals as goal

pub returns : goal.returns
returns g c =
    ends_by_parts c.args.manner c.args.script _ _ _ c.opened_output.result.end c.opened_output.result.text.items
    (c.is_some.ensures ∙ ap (λ o. is_some o) c.into_parts-catalog.ensures.opens) c.into_parts-catalog.ensures.catalog (c.as_slice.ensures.value ∙ c.into_parts-catalog.ensures.lines) c.opened_output.ensures

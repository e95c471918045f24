use Rattle.std.proofs.Common.{◌≡◌, ap, ◌∙◌}
use Rattle.std.specs.List.{filter}
use Rattle.explore.specs.Refusals.{lines, may_refuse}
use Rattle.explore.proofs.Lines.{refusals_are, texts}
use Rattle.explore.proofs.tally.listing.refusals.Refusals.in_text.Goals as goal

pub returns : goal.returns
returns g c =
    let ls = texts c.as_slice-found.result.now in
    let same : ls ≡ filter may_refuse (lines c.args.text.now) = ap texts c.as_slice-found.ensures.value ∙ c.in_ok-found.ensures in
    refusals_are c.args.text.now ls c.in_ok-refused_by.field-0.items c.in_ok-is_told_to_some.field-0 c.in_ok-is_told_to_some-2.field-0 same c.in_ok-refused_by.ensures c.in_ok-is_told_to_some.ensures c.in_ok-is_told_to_some-2.ensures

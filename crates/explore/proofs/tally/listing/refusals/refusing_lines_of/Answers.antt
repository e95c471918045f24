use Rattle.std.proofs.Common.{ap, ◌∙◌, rules, of_calls}
use Rattle.std.specs.List.{filter}
use Rattle.std.proofs.lemmas.Fn.{filter_same}
use Rattle.explore.specs.Refusals.{may_refuse}
use Rattle.explore.proofs.Lines.{map-filter, texts}
use Rattle.explore.proofs.tally.listing.refusals.refusing_lines_of.Goals as goal

pub returns : goal.returns
returns g c =
    let left = filter_same _ (λ l. may_refuse l.now) _ (λ x b f k. search (rules, of_calls)) _ _ c.retain.ensures.filtered in
    ap texts left ∙ map-filter c.in_ok-found.found.items ∙ ap (filter may_refuse) c.in_ok-found.ensures

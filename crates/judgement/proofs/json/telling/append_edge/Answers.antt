use Rattle.std.proofs.Common.{◌∙◌, ◌++◌, ap, codes}
use Rattle.std.proofs.lemmas.Result.{on_ok_weaker}
use Rattle.judgement.specs.Json.{string_member}
use Rattle.judgement.specs.JsonTold.{edge}
use Rattle.judgement.proofs.JsonLemmas.{four}
use Rattle.judgement.proofs.json.telling.append_edge.Goals as goal

pub returns : goal.returns
unfolding edge
returns g c =
    let words = c.in_ok-append_string_member.ensures ∙ ap (λ w. c.append_item.new.text.items ++ string_member (codes ",\"words\":") w) c.as_slice.ensures.value in
    on_ok_weaker c.append_word.result (λ e. four _ _ _ _ _ _ _ _ _ c.in_ok-append_sides.ensures c.in_ok-append_item.ensures words e) c.append_word.ensures

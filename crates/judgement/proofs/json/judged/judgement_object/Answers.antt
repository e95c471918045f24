use Rattle.std.proofs.Common.{◌∙◌, ◌++◌, ap, codes}
use Rattle.judgement.specs.JsonTelling.{beginning, counts_member}
use Rattle.judgement.proofs.JsonLemmas.{four}
use Rattle.judgement.proofs.json.judged.judgement_object.Goals as goal

pub returns : goal.returns
returns g c =
    let counts = counts_member c.in_ok-counts.counts in
    let whole = four _ _ _ _ _ _ _ _ _ c.in_ok-append_word.ensures c.in_ok-append_counts.ensures c.in_ok-extend_from_slice.ensures.items c.in_ok-append_word-2.ensures in
    let from_nothing = whole ∙ ap (λ t. t ++ (c.beginning.result.now ++ (counts ++ (c.as_slice.result.now ++ codes "}\n")))) c.new-text.ensures.items in (
      c.in_ok-counts.counts,
      c.in_ok-reasons.reasons.items,
      from_nothing ∙ ap (λ b. b ++ (counts ++ (c.as_slice.result.now ++ codes "}\n"))) c.beginning.ensures ∙ ap (λ r. beginning c.args.judgement.now.answer ++ (counts ++ (r ++ codes "}\n"))) c.as_slice.ensures.value,
      c.in_ok-counts.ensures,
      c.in_ok-reasons.ensures,
    )

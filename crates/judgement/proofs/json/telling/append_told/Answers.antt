use Rattle.std.proofs.Common.{◌∙◌, ap, sym}
use Rattle.std.proofs.lemmas.Result.{on_ok_weaker}
use Rattle.judgement.specs.JsonTold.{cycles, lines, told}
use Rattle.judgement.proofs.JsonLemmas.{four}
use Rattle.judgement.proofs.json.telling.append_told.Goals as goal

pub returns : goal.returns
unfolding told
returns g c =
    let each = c.as_slice-3.ensures.value ∙ c.in_ok-cycles.ensures ∙ ap cycles c.as_slice.ensures.value in
    let words = c.as_slice-4.ensures.value ∙ c.in_ok-lines.ensures ∙ ap lines c.as_slice-2.ensures.value in
    rw (sym each, sym words) (on_ok_weaker c.append_array-2.result (λ e. four _ _ _ _ _ _ _ _ _ c.in_ok-append_word.ensures c.in_ok-append_array.ensures c.in_ok-append_word-2.ensures e) c.append_array-2.ensures)

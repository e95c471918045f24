use Rattle.std.proofs.Common.{◌∙◌, ap, sym}
use Rattle.std.proofs.lemmas.Result.{on_ok_weaker}
use Rattle.judgement.specs.JsonTold.{cycle, edges, parties}
use Rattle.judgement.proofs.JsonLemmas.{six}
use Rattle.judgement.proofs.json.telling.append_cycle.Goals as goal

pub returns : goal.returns
unfolding cycle
returns g c =
    let all = c.as_slice-3.ensures.value ∙ c.in_ok-parties.ensures ∙ ap parties c.as_slice.ensures.value in
    let each = c.as_slice-4.ensures.value ∙ c.in_ok-edges.ensures ∙ ap edges c.as_slice-2.ensures.value in
    rw (sym all, sym each) (on_ok_weaker c.append_word-3.result (λ e. six _ _ _ _ _ _ _ _ _ _ _ _ _ c.in_ok-append_word.ensures c.in_ok-append_array.ensures c.in_ok-append_word-2.ensures c.in_ok-append_array-2.ensures c.in_ok-append_string_if.ensures e) c.append_word-3.ensures)

use Rattle.std.proofs.Common.{◌∙◌, sym}
use Rattle.std.proofs.lemmas.Result.{on_ok_weaker}
use Rattle.judgement.specs.JsonTelling.{order_member}
use Rattle.judgement.proofs.JsonLemmas.{two}
use Rattle.judgement.proofs.json.judged.append_order.Goals as goal

pub returns : goal.returns
unfolding order_member
returns g c =
    let all = c.as_slice.ensures.value ∙ c.in_ok-numbers.ensures in
    rw (sym all) (on_ok_weaker c.append_array.result (λ e. two _ _ _ _ _ c.in_ok-append_word.ensures e) c.append_array.ensures)

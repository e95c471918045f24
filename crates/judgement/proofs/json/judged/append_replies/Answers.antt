use Rattle.std.proofs.Common.{◌∙◌, sym}
use Rattle.std.proofs.lemmas.Result.{on_ok_weaker}
use Rattle.judgement.specs.Json.{number_member}
use Rattle.judgement.specs.JsonTelling.{reply_members}
use Rattle.judgement.proofs.JsonLemmas.{three}
use Rattle.judgement.proofs.json.judged.append_replies.Goals as goal

pub returns : goal.returns
unfolding reply_members number_member
returns g c =
    let recorded = c.as_slice.ensures.value ∙ c.in_ok-recorded.ensures.ok in
    let alone = c.as_slice-2.ensures.value ∙ c.in_ok-alone.ensures.ok in
    rw (sym recorded, sym alone) (on_ok_weaker c.append_string_member-2.result (λ e. three _ _ _ _ _ _ _ c.in_ok-append.ensures c.in_ok-append_string_member.ensures e) c.append_string_member-2.ensures)

use Rattle.std.proofs.Common.{◌∙◌, ap, slice_get, sym}
use Rattle.std.proofs.lemmas.Result.{on_ok_weaker}
use Rattle.judgement.specs.Json.{number_member}
use Rattle.judgement.specs.JsonTelling.{hindered, number_of}
use Rattle.judgement.specs.Telling.{names_of}
use Rattle.judgement.proofs.JsonLemmas.{three}
use Rattle.judgement.proofs.json.judged.append_hindered.Goals as goal

pub returns : goal.returns
unfolding hindered number_member
returns g c =
    let number = c.number_at-number.ensures ∙ ap (λ names. number_of (slice_get (names_of names) c.args.hindered.now.place)) c.as_slice.ensures.value in
    rw (sym number) (on_ok_weaker c.append_word.result (λ e. three _ _ _ _ _ _ _ c.in_ok-append.ensures c.in_ok-append_hindrance.ensures e) c.append_word.ensures)

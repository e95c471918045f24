use Rattle.std.proofs.lemmas.Result.{on_ok_weaker}
use Rattle.judgement.specs.JsonTold.{party}
use Rattle.judgement.proofs.JsonLemmas.{five}
use Rattle.judgement.proofs.json.telling.append_party.Goals as goal

pub returns : goal.returns
unfolding party
returns g c = on_ok_weaker c.append_word.result (λ e. five _ _ _ _ _ _ _ _ _ _ _ c.in_ok-append.ensures c.in_ok-append-2.ensures c.in_ok-append_number_if.ensures c.in_ok-append_origin.ensures e) c.append_word.ensures

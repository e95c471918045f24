use Rattle.std.proofs.lemmas.Result.{on_ok_weaker}
use Rattle.judgement.specs.Json.{number_member}
use Rattle.judgement.specs.JsonTelling.{counts_member}
use Rattle.judgement.proofs.JsonLemmas.{five}
use Rattle.judgement.proofs.json.judged.append_counts.Goals as goal

pub returns : goal.returns
unfolding counts_member number_member
returns g c = on_ok_weaker c.append_word.result (λ e. five _ _ _ _ _ _ _ _ _ _ _ c.in_ok-append.ensures c.in_ok-append-2.ensures c.in_ok-append-3.ensures c.in_ok-append-4.ensures e) c.append_word.ensures

use Rattle.std.proofs.Common.{sym}
use Rattle.std.proofs.lemmas.Result.{on_ok_weaker}
use Rattle.judgement.specs.JsonTold.{edge_parties}
use Rattle.judgement.proofs.JsonLemmas.{six}
use Rattle.judgement.proofs.json.telling.append_sides.Goals as goal

pub returns : goal.returns
unfolding edge_parties
returns g c = rw (sym c.kind_word.ensures) (on_ok_weaker c.append_party-2.result (λ e. six _ _ _ _ _ _ _ _ _ _ _ _ _ c.in_ok-append_word.ensures c.in_ok-append_word-2.ensures c.in_ok-append_word-3.ensures c.in_ok-append_party.ensures c.in_ok-append_word-4.ensures e) c.append_party-2.ensures)

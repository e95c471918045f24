use Rattle.std.proofs.Common.{◌∙◌, ap, arith}
use Rattle.std.proofs.lemmas.List.{take_all}
use Rattle.judgement.specs.JsonTold.{party, parties}
use Rattle.judgement.proofs.JsonLemmas.{listed}
use Rattle.judgement.proofs.json.telling.parties_text.Goals as goal

pub loop-party-preserved : goal.loop-party-preserved
loop-party-preserved g c = listed party c.args.parties.now c.loop-party.party-index c.party-item.result c.loop-party.text.items _ c.append_party.new.text.items c.loop-party-test.true c.party-item.is c.loop-party.invariant c.in_ok-append_word.ensures c.in_ok-append_party.ensures

pub returns : goal.returns
returns g c = c.loop-party.invariant ∙ ap parties (take_all c.loop-party.party-index c.args.parties.now (omega (arith, c.loop-party-test.false)))

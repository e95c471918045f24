use Rattle.std.proofs.Common.{◌∙◌, ap, arith}
use Rattle.std.proofs.lemmas.List.{take_all}
use Rattle.judgement.specs.JsonTold.{cycle, cycles}
use Rattle.judgement.proofs.JsonLemmas.{listed}
use Rattle.judgement.proofs.json.telling.cycles_text.Goals as goal

pub loop-cycle-preserved : goal.loop-cycle-preserved
loop-cycle-preserved g c = listed cycle c.args.cycles.now c.loop-cycle.cycle-index c.cycle-item.result c.loop-cycle.text.items _ c.append_cycle.new.text.items c.loop-cycle-test.true c.cycle-item.is c.loop-cycle.invariant c.in_ok-append_word.ensures c.in_ok-append_cycle.ensures

pub returns : goal.returns
returns g c = c.loop-cycle.invariant ∙ ap cycles (take_all c.loop-cycle.cycle-index c.args.cycles.now (omega (arith, c.loop-cycle-test.false)))

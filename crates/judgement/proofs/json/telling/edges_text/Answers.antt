use Rattle.std.proofs.Common.{◌∙◌, ap, arith}
use Rattle.std.proofs.lemmas.List.{take_all}
use Rattle.judgement.specs.JsonTold.{edge, edges}
use Rattle.judgement.proofs.JsonLemmas.{listed}
use Rattle.judgement.proofs.json.telling.edges_text.Goals as goal

pub loop-edge-preserved : goal.loop-edge-preserved
loop-edge-preserved g c = listed edge c.args.edges.now c.loop-edge.edge-index c.edge-item.result c.loop-edge.text.items _ c.append_edge.new.text.items c.loop-edge-test.true c.edge-item.is c.loop-edge.invariant c.in_ok-append_word.ensures c.in_ok-append_edge.ensures

pub returns : goal.returns
returns g c = c.loop-edge.invariant ∙ ap edges (take_all c.loop-edge.edge-index c.args.edges.now (omega (arith, c.loop-edge-test.false)))

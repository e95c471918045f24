use Rattle.std.proofs.Common.{◌∙◌, ap, arith}
use Rattle.std.proofs.lemmas.List.{take_all}
use Rattle.judgement.specs.JsonTelling.{each_hindered, hindered}
use Rattle.judgement.specs.Telling.{names_of}
use Rattle.judgement.proofs.JsonLemmas.{listed}
use Rattle.judgement.proofs.json.judged.each_hindered.Goals as goal

pub loop-hindered-preserved : goal.loop-hindered-preserved
loop-hindered-preserved g c = listed (hindered (names_of c.args.traces.now.names.items) c.args.traces.now.transactions.items) c.args.each.now c.loop-hindered.hindered-index c.hindered-item.result c.loop-hindered.text.items _ c.append_hindered.new.text.items c.loop-hindered-test.true c.hindered-item.is c.loop-hindered.invariant c.in_ok-append_word.ensures c.in_ok-append_hindered.ensures

pub returns : goal.returns
returns g c = c.loop-hindered.invariant ∙ ap (each_hindered (names_of c.args.traces.now.names.items) c.args.traces.now.transactions.items) (take_all c.loop-hindered.hindered-index c.args.each.now (omega (arith, c.loop-hindered-test.false)))

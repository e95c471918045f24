use Rattle.judgement.specs.Telling.{hindered_text, names_of}
use Rattle.judgement.proofs.PlaceLemmas.{one_more}
use Rattle.judgement.proofs.printing.append_each.Goals as goal

pub loop-hindered-preserved : goal.loop-hindered-preserved
loop-hindered-preserved g c = one_more (hindered_text (names_of c.args.traces.now.names.items) c.args.traces.now.transactions.items) c.args.text.now.items c.args.each.now c.loop-hindered.hindered-index c.hindered-item.result c.loop-hindered.text.items c.append_hindered.new.text.items c.loop-hindered-test.true c.hindered-item.is c.loop-hindered.invariant c.in_ok-append_hindered.ensures

use Rattle.std.proofs.Common.{◌∙◌, ap, arith}
use Rattle.std.proofs.lemmas.List.{take_all}
use Rattle.retrace.specs.Lives.{bars}
use Rattle.retrace.proofs.DrawnLemmas.{bars_more}
use Rattle.retrace.proofs.drawing.bar.bars.Goals as goal

pub loop-run-preserved : goal.loop-run-preserved
loop-run-preserved g c = bars_more c.args.records.now c.args.runs.now c.loop-run.run-index c.run-item.result c.loop-run.made.items c.push.new.self.items c.bar_of.result (omega arith) c.run-item.is c.loop-run.invariant c.bar_of.ensures c.in_ok-push.ensures.items

pub returns-clause-ok : goal.returns-clause-ok
returns-clause-ok g c = c.loop-run.invariant ∙ ap (λ l. bars c.args.records.now l) (take_all c.loop-run.run-index c.args.runs.now (omega arith))

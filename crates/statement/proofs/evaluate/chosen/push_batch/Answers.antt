use Rattle.std.proofs.Common.{map, arith}
use Rattle.statement.proofs.WalkLemmas.{batch_above, batch_more, batch_none, batch_within}
use Rattle.statement.proofs.evaluate.chosen.push_batch.Goals as goal

pub push_chosen-requires : goal.push_chosen-requires
push_chosen-requires g c = (batch_within c.args.conditions.now c.args.high.now c.args.batch.now c.loop-row.row-index c.row-item.result (omega arith) c.row-item.is c.requires.within).columns

pub loop-row-preserved : goal.loop-row-preserved
loop-row-preserved g c = batch_more c.args.conditions.now c.args.batch.now c.loop-row.row-index c.row-item.result (map (λ row. row.now) c.args.chosen.now.items) (map (λ row. row.now) c.loop-row.chosen.items) (map (λ row. row.now) c.push_chosen.new.chosen.items) (omega arith) c.row-item.is c.in_ok-is_chosen.ensures.ok c.loop-row.invariant

pub returns-then-is_above-clause-ok : goal.returns-then-is_above-clause-ok
returns-then-is_above-clause-ok g c = batch_above c.args.conditions.now c.args.high.now c.args.batch.now c.loop-row.row-index c.row-item.result (map (λ row. row.now) c.args.chosen.now.items) (map (λ row. row.now) c.loop-row.chosen.items) (map (λ row. row.now) c.push_chosen.new.chosen.items) (omega arith) c.row-item.is c.in_ok-is_chosen.ensures.ok c.loop-row.invariant c.requires.within c.requires.ordered (c.is_above.ensures c.if-is_above.true)

pub returns-then-is_above-clause-above : goal.returns-then-is_above-clause-above
returns-then-is_above-clause-above g c _ = batch_none c.args.conditions.now c.args.high.now c.args.batch.now c.loop-row.row-index c.row-item.result (omega arith) c.row-item.is c.requires.within (c.is_above.ensures c.if-is_above.true)

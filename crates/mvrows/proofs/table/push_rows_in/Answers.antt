use Rattle.std.proofs.Common.{arith}
use Rattle.mvrows.proofs.BatchLemmas.{page_pushed}
use Rattle.mvrows.proofs.table.push_rows_in.Goals as goal

pub loop-leaf-preserved : goal.loop-leaf-preserved
loop-leaf-preserved g c = page_pushed c.args.snapshot c.loop-leaf.leaf-index c.args.most c.args.bound c.args.leaves.now c.leaf-item.result c.page.result.now c.loop-leaf.rows.items c.push_rows.new.rows.items _ (omega arith) c.leaf-item.is c.page.ensures c.in_ok-push_rows.ensures.ok c.loop-leaf.invariant.0

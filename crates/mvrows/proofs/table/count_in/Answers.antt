use Rattle.std.proofs.Common.{arith}
use Rattle.mvrows.proofs.WholeLemmas.{page_counted, pages_counted}
use Rattle.mvrows.proofs.table.count_in.Goals as goal

pub loop-leaf-preserved : goal.loop-leaf-preserved
loop-leaf-preserved g c =
    let sum = (c.in_ok-count.ensures {u = tt}).1 in
    let counted = page_counted c.args.snapshot c.loop-leaf.leaf-index c.loop-leaf.count c.count.result c.args.leaves.now c.leaf-item.result (omega arith) c.leaf-item.is c.count.ensures c.loop-leaf.invariant in
    omega (arith, sum, counted)

pub returns : goal.returns
returns g c = pages_counted c.args.snapshot c.loop-leaf.leaf-index c.loop-leaf.count c.args.leaves.now c.loop-leaf-test.false c.loop-leaf.invariant

use Rattle.std.proofs.Common.{arith}
use Rattle.mvrows.proofs.CopiedLemmas.{page-shown}
use Rattle.mvrows.proofs.table.copy_all_shown.Goals as goal

pub loop-leaf-preserved : goal.loop-leaf-preserved
loop-leaf-preserved g c =
    page-shown c.args.snapshot c.args.leaves.now c.loop-leaf.leaf-index c.leaf-item.result c.page.result.now c.args.copies.now c.loop-leaf.copies c.copy_shown.new.copies c.args.table (omega arith) c.leaf-item.is c.page.ensures c.requires c.loop-leaf.invariant c.in_ok-copy_shown.ensures.ok

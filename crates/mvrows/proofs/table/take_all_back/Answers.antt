use Rattle.std.proofs.Common.{ap, sym, arith, ◌∙◌}
use Rattle.mvrows.specs.HeldRows.{Held, undone}
use Rattle.mvrows.proofs.HeldLemmas.{so_far-more}
use Rattle.mvrows.proofs.table.take_all_back.Goals as goal

pub loop-leaf-preserved : goal.loop-leaf-preserved
loop-leaf-preserved g c =
    so_far-more (λ (h : Held _). h.rows) (undone c.args.commit) c.loop-leaf.leaf-items c.deref_mut-leaf-items.result.now c.loop-leaf.leaf-index c.leaf-item.result c.take_back.new.self (omega arith) c.leaf-item.is (c.take_back.ensures ∙ ap (undone c.args.commit) (sym c.leaf-item.is)) c.loop-leaf.invariant

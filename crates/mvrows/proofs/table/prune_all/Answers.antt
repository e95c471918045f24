use Rattle.std.proofs.Common.{ap, sym, arith, ◌∙◌}
use Rattle.mvrows.specs.HeldRows.{Held, own_pruned}
use Rattle.mvrows.proofs.HeldLemmas.{so_far-more}
use Rattle.mvrows.proofs.table.prune_all.Goals as goal

pub loop-leaf-preserved : goal.loop-leaf-preserved
loop-leaf-preserved g c =
    so_far-more (λ (h : Held _). h.rows) (own_pruned c.args.oldest) c.loop-leaf.leaf-items c.deref_mut-leaf-items.result.now c.loop-leaf.leaf-index c.leaf-item.result c.prune.new.self (omega arith) c.leaf-item.is (c.prune.ensures ∙ ap (own_pruned c.args.oldest) (sym c.leaf-item.is)) c.loop-leaf.invariant

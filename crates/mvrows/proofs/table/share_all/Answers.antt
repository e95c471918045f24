use Rattle.std.proofs.Common.{ap, sym, arith, ◌∙◌}
use Rattle.mvrows.specs.HeldRows.{Held}
use Rattle.mvrows.proofs.HeldLemmas.{so_far-more}
use Rattle.mvrows.proofs.table.share_all.Goals as goal

pub loop-leaf-preserved : goal.loop-leaf-preserved
loop-leaf-preserved g c =
    so_far-more (λ (h : Held _). h.rows) (λ h. h.rows) c.loop-leaf.leaf-items c.deref_mut-leaf-items.result.now c.loop-leaf.leaf-index c.leaf-item.result c.share.new.self (omega arith) c.leaf-item.is (c.share.ensures ∙ ap (λ (h : Held _). h.rows) (sym c.leaf-item.is)) c.loop-leaf.invariant

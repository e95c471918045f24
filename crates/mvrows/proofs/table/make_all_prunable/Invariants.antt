use Rattle.mvrows.specs.Pruning.{pruned_rows}
use Rattle.mvrows.specs.HeldRows.{Held, own_pruned}
use Rattle.mvrows.proofs.HeldLemmas.{SoFar}
use Rattle.mvrows.proofs.table.make_all_prunable.Given as goal

-- the pages so far, and the rest
abbrev pub invariant-loop-leaf : goal.invariant-loop-leaf
invariant-loop-leaf g l = record {
  same : SoFar (λ (h : Held _). h.rows) (λ h. h.rows) l.leaf-items l.initial.leaf-items l.leaf-index;
  prunable : SoFar (own_pruned l.oldest) (λ h. pruned_rows l.oldest h.rows) l.leaf-items l.initial.leaf-items l.leaf-index;
}

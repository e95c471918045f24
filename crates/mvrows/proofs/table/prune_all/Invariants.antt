use Rattle.mvrows.specs.HeldRows.{Held, own_pruned}
use Rattle.mvrows.proofs.HeldLemmas.{SoFar}
use Rattle.mvrows.proofs.table.prune_all.Given as goal

-- the pages so far, and the rest
abbrev pub invariant-loop-leaf : goal.invariant-loop-leaf
invariant-loop-leaf g l = SoFar (λ (h : Held _). h.rows) (own_pruned l.oldest) l.leaf-items l.initial.leaf-items l.leaf-index

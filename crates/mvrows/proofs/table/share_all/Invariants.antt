use Rattle.mvrows.specs.HeldRows.{Held}
use Rattle.mvrows.proofs.HeldLemmas.{SoFar}
use Rattle.mvrows.proofs.table.share_all.Given as goal

-- the pages so far, and the rest
abbrev pub invariant-loop-leaf : goal.invariant-loop-leaf
invariant-loop-leaf g l = SoFar (λ (h : Held _). h.rows) (λ h. h.rows) l.leaf-items l.initial.leaf-items l.leaf-index

use Rattle.mvrows.specs.HeldRows.{rows_in, own_pruned_in}
use Rattle.mvrows.proofs.HeldLemmas.{SoFar}
use Rattle.mvrows.proofs.rows.prune_all.Given as goal

-- the tables so far, and the rest
abbrev pub invariant-loop-table : goal.invariant-loop-table
invariant-loop-table g l = SoFar rows_in (own_pruned_in l.oldest) l.table-items l.initial.table-items l.table-index

use Rattle.mvrows.specs.Pruning.{pruned_rows}
use Rattle.mvrows.specs.HeldRows.{rows_in, own_pruned_in}
use Rattle.mvrows.proofs.HeldLemmas.{SoFar}
use Rattle.mvrows.proofs.rows.make_all_prunable.Given as goal

-- the tables so far, and the rest
abbrev pub invariant-loop-table : goal.invariant-loop-table
invariant-loop-table g l = record {
  same : SoFar rows_in rows_in l.table-items l.initial.table-items l.table-index;
  prunable : SoFar (own_pruned_in l.oldest) (λ h. pruned_rows l.oldest (rows_in h)) l.table-items l.initial.table-items l.table-index;
}

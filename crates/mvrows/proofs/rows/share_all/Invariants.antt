use Rattle.mvrows.specs.HeldRows.{rows_in}
use Rattle.mvrows.proofs.HeldLemmas.{SoFar}
use Rattle.mvrows.proofs.rows.share_all.Given as goal

-- the tables so far, and the rest
abbrev pub invariant-loop-table : goal.invariant-loop-table
invariant-loop-table g l = SoFar rows_in rows_in l.table-items l.initial.table-items l.table-index

use Rattle.mvrows.specs.HeldRows.{rows_in, undone_in}
use Rattle.mvrows.proofs.HeldLemmas.{SoFar}
use Rattle.mvrows.proofs.rows.take_all_back.Given as goal

-- the tables so far, and the rest
abbrev pub invariant-loop-table : goal.invariant-loop-table
invariant-loop-table g l = SoFar rows_in (undone_in l.commit) l.table-items l.initial.table-items l.table-index

use Rattle.std.proofs.Common.{◌≡◌, ◌+◌, drop, length}
use Rattle.mvrows.specs.Versions.{shown_rows}
use Rattle.mvrows.specs.HeldRows.{rows_in}
use Rattle.mvrows.proofs.table.count_in.Given as goal

-- the rows so far, and those of the pages left
abbrev pub invariant-loop-leaf : goal.invariant-loop-leaf
invariant-loop-leaf g l = l.count + length (shown_rows l.snapshot (rows_in (drop l.leaf-index l.leaves))) ≡ length (shown_rows l.snapshot (rows_in l.leaves))

use Rattle.std.proofs.Common.{◌≡◌, take}
use Rattle.mvrows.specs.Versions.{shown_rows}
use Rattle.mvrows.specs.HeldRows.{rows_in}
use Rattle.mvrows.specs.Copied.{with_rows}
use Rattle.mvrows.proofs.table.copy_all_shown.Given as goal

-- the pages so far are copied
abbrev pub invariant-loop-leaf : goal.invariant-loop-leaf
invariant-loop-leaf g l = l.copies ≡ with_rows l.initial.copies l.table (shown_rows l.snapshot (rows_in (take l.leaf-index l.leaves)))

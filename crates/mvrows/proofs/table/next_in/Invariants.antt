use Rattle.std.proofs.Common.{◌≡◌, drop}
use Rattle.schema.specs.Rows.{next_row}
use Rattle.mvrows.specs.Versions.{shown_rows}
use Rattle.mvrows.specs.HeldRows.{rows_in}
use Rattle.mvrows.proofs.table.next_in.Given as goal

-- the pages so far show no row within the bound
abbrev pub invariant-loop-leaf : goal.invariant-loop-leaf
invariant-loop-leaf g l = next_row (shown_rows l.snapshot (rows_in l.leaves)) l.bound ≡ next_row (shown_rows l.snapshot (rows_in (drop l.leaf-index l.leaves))) l.bound

use Rattle.std.proofs.Common.{◌≡◌}
use Rattle.mvrows.specs.HeldRows.{rows_held}
use Rattle.mvrows.proofs.rows.share_all_tables.Given as goal

-- the tables are as they were
abbrev pub invariant-loop-change : goal.invariant-loop-change
invariant-loop-change g l = rows_held l.tables.items ≡ rows_held l.initial.tables.items

use Rattle.std.proofs.Common.{◌≡◌, ◌^◌, ◌-◌, length, min, take}
use Rattle.std.specs.List.{sum_by}
use Rattle.program.proofs.restoring.rows_of.Given as goal

-- the rows of the tables so far are counted
abbrev pub invariant-loop-table : goal.invariant-loop-table
invariant-loop-table g l = l.rows ≡ min (sum_by (λ rows. length rows) (take l.table l.tables)) (2 ^ 64 - 1)

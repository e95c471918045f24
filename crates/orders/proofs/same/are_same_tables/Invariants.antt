use Rattle.std.proofs.Common.{◌≡◌, ℕ, ◌<◌}
use Rattle.schema.specs.Plain.{rows_of}
use Rattle.orders.proofs.same.are_same_tables.Given as goal

-- those so far have the same rows
abbrev pub invariant-loop-place : goal.invariant-loop-place
invariant-loop-place g l = (t : ℕ) → t < l.place → rows_of l.left t ≡ rows_of l.right t

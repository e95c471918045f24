use Rattle.std.proofs.Common.{ℕ, ◌<◌, ◌≤◌, slice_get}
use Rattle.orders.specs.Turns.{begin_at}
use Rattle.orders.proofs.recorded.earliest_at.Given as goal

-- of those so far
abbrev pub invariant-loop-place : goal.invariant-loop-place
invariant-loop-place g l = (j : ℕ) → l.from ≤ j → j < l.place → l.earliest ≤ begin_at (slice_get l.transactions j)

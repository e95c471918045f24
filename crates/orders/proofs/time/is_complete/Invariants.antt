use Rattle.std.proofs.Common.{◌≡◌, ℕ, ◌<◌, ◌-◌, true, length, slice_get}
use Rattle.orders.specs.Turns.{settled}
use Rattle.orders.proofs.time.is_complete.Given as goal

-- those so far are
abbrev pub invariant-loop-place : goal.invariant-loop-place
invariant-loop-place g l = (j : ℕ) → j < l.place → settled (slice_get l.recorded j) (slice_get l.done j) ≡ true

abbrev pub decreases-loop-place : goal.decreases-loop-place
decreases-loop-place g l = length l.transactions - l.place

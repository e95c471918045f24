use Rattle.std.proofs.Common.{◌≡◌, ℕ, ◌-◌, ◌<◌, ◌≤◌, false, length}
use Rattle.orders.specs.Turns.{comes}
use Rattle.orders.proofs.time.find_from.Given as goal

-- none before may come
abbrev pub invariant-loop-place : goal.invariant-loop-place
invariant-loop-place g l = (j : ℕ) → l.from ≤ j → j < l.place → comes l.recorded l.done j ≡ false

abbrev pub decreases-loop-place : goal.decreases-loop-place
decreases-loop-place g l = length l.transactions - l.place

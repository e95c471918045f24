use Rattle.std.proofs.Common.{◌≡◌, ◌≤◌, ◌-◌, drop, fold, length}
use Rattle.transactions.specs.Active.{before_active, first_active}
use Rattle.transactions.proofs.kept.active.first_active.Given as goal

-- the least so far, and that of what is left
abbrev pub invariant-loop-walk : goal.invariant-loop-walk
invariant-loop-walk g l = (l.walk.at ≤ length l.transactions) × (fold before_active l.first (drop l.walk.at l.transactions) ≡ first_active l.transactions)

abbrev pub decreases-loop-walk : goal.decreases-loop-walk
decreases-loop-walk g l = length l.transactions - l.walk.at

use Rattle.std.proofs.Common.{◌≡◌, ◌≤◌, ◌-◌, ◌++◌, drop, length}
use Rattle.transactions.specs.Versions.{owed_snapshots}
use Rattle.transactions.proofs.ends.owed.owed_snapshots.Given as goal

-- those so far, and those of what is left
abbrev pub invariant-loop-walk : goal.invariant-loop-walk
invariant-loop-walk g l = (l.walk.at ≤ length l.transactions) × (l.snapshots.items ++ owed_snapshots (drop l.walk.at l.transactions) ≡ owed_snapshots l.transactions)

abbrev pub decreases-loop-walk : goal.decreases-loop-walk
decreases-loop-walk g l = length l.transactions - l.walk.at

use Rattle.std.proofs.Common.{◌≡◌, ◌≤◌, ◌-◌, drop, length}
use Rattle.transactions.specs.Forgetting.{is_looked_at}
use Rattle.transactions.specs.Versions.{least_snapshot}
use Rattle.transactions.proofs.kept.least.least_owed.Given as goal

-- the least so far, and that of what is left
abbrev pub invariant-loop-walk : goal.invariant-loop-walk
invariant-loop-walk g l = (l.walk.at ≤ length l.transactions) × (least_snapshot (is_looked_at l.unspoilt l.which) l.least (drop l.walk.at l.transactions) ≡ least_snapshot (is_looked_at l.unspoilt l.which) l.most l.transactions)

abbrev pub decreases-loop-walk : goal.decreases-loop-walk
decreases-loop-walk g l = length l.transactions - l.walk.at

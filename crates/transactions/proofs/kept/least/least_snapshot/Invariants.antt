use Rattle.std.proofs.Common.{◌≡◌, ◌≤◌, length, min}
use Rattle.transactions.specs.Forgetting.{is_looked_at}
use Rattle.transactions.specs.Versions.{least_snapshot}
use Rattle.transactions.proofs.kept.least.least_snapshot.Given as goal

-- the least so far, and of those left
abbrev pub invariant-loop-left : goal.invariant-loop-left
invariant-loop-left g l = (min l.least (least_snapshot (is_looked_at l.unspoilt l.which) l.most l.left) ≡ least_snapshot (is_looked_at l.unspoilt l.which) l.most l.transactions) × (l.least ≤ l.most)

abbrev pub decreases-loop-left : goal.decreases-loop-left
decreases-loop-left g l = length l.left

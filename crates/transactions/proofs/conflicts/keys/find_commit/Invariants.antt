use Rattle.std.proofs.Common.{◌≡◌, ◌≤◌, ◌-◌, ◌==◌, ◌&&◌, drop, find, length}
use Rattle.history.specs.Transactions.{is_done}
use Rattle.transactions.proofs.conflicts.keys.find_commit.Given as goal

-- what is left answers for all
abbrev pub invariant-loop-walk : goal.invariant-loop-walk
invariant-loop-walk g l = (l.walk.at ≤ length l.transactions) × (find (λ t. is_done t.standing && t.end == l.place) (drop l.walk.at l.transactions) ≡ find (λ t. is_done t.standing && t.end == l.place) l.transactions)

abbrev pub decreases-loop-walk : goal.decreases-loop-walk
decreases-loop-walk g l = length l.transactions - l.walk.at

use Rattle.std.proofs.Common.{◌≡◌, ◌≤◌, ◌-◌, drop, find, length}
use Rattle.history.specs.Transactions.{is_of}
use Rattle.transactions.proofs.exports.snapshots.find_current.Given as goal

-- what is left answers for all
abbrev pub invariant-loop-walk : goal.invariant-loop-walk
invariant-loop-walk g l = (l.walk.at ≤ length l.transactions) × (find (is_of l.session) (drop l.walk.at l.transactions) ≡ find (is_of l.session) l.transactions)

abbrev pub decreases-loop-walk : goal.decreases-loop-walk
decreases-loop-walk g l = length l.transactions - l.walk.at

use Rattle.std.proofs.Common.{◌≡◌, ◌≤◌, ◌-◌, drop, length}
use Rattle.value.specs.Isolation.{first_some}
use Rattle.history.specs.Transactions.{edge, node}
use Rattle.transactions.specs.Structures.{closed_pair}
use Rattle.transactions.proofs.conflicts.cause.cause_from.Given as goal

-- what is left answers for all
abbrev pub invariant-loop-walk : goal.invariant-loop-walk
invariant-loop-walk g l = (l.walk.at ≤ length l.all) × (first_some (closed_pair node edge l.all l.first) (drop l.walk.at l.all) ≡ first_some (closed_pair node edge l.all l.first) l.all)

abbrev pub decreases-loop-walk : goal.decreases-loop-walk
decreases-loop-walk g l = length l.all - l.walk.at

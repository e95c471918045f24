use Rattle.std.proofs.Common.{◌≡◌, ◌≤◌, ◌-◌, drop, length}
use Rattle.std.specs.List.{list_any}
use Rattle.history.specs.Transactions.{edge}
use Rattle.transactions.proofs.ends.commit.has_edge_from.Given as goal

-- what is left answers for all
abbrev pub invariant-loop-walk : goal.invariant-loop-walk
invariant-loop-walk g l = (l.walk.at ≤ length l.transactions) × (list_any (edge l.reader) (drop l.walk.at l.transactions) ≡ list_any (edge l.reader) l.transactions)

abbrev pub decreases-loop-walk : goal.decreases-loop-walk
decreases-loop-walk g l = length l.transactions - l.walk.at

use Rattle.std.proofs.Common.{◌≡◌, ◌≤◌, ◌-◌, drop, length, min}
use Rattle.std.specs.List.{filter}
use Rattle.value.specs.Isolation.{first_part}
use Rattle.history.specs.Transactions.{edge, is_done, node}
use Rattle.transactions.proofs.conflicts.keys.first_around.Given as goal

-- the least so far, and that of what is left
abbrev pub invariant-loop-walk : goal.invariant-loop-walk
invariant-loop-walk g l = (l.walk.at ≤ length l.transactions) × (l.least ≤ l.transaction.commit) × (min l.least (first_part node edge l.transaction (filter (λ t. is_done t.standing) (drop l.walk.at l.transactions))) ≡ first_part node edge l.transaction (filter (λ t. is_done t.standing) l.transactions))

abbrev pub decreases-loop-walk : goal.decreases-loop-walk
decreases-loop-walk g l = length l.transactions - l.walk.at

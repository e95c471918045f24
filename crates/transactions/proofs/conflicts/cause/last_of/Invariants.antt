use Rattle.std.proofs.Common.{◌≡◌, ◌≤◌, ◌-◌, drop, length}
use Rattle.transactions.specs.Earliest.{first_of_both}
use Rattle.transactions.proofs.PieceLemmas.{closing}
use Rattle.transactions.proofs.conflicts.cause.last_of.Given as goal

-- the first so far, and that of what is left
abbrev pub invariant-loop-walk : goal.invariant-loop-walk
invariant-loop-walk g l = (l.walk.at ≤ length l.all) × (first_of_both l.last (closing l.first l.pivot (drop l.walk.at l.all)) ≡ closing l.first l.pivot l.all)

abbrev pub decreases-loop-walk : goal.decreases-loop-walk
decreases-loop-walk g l = length l.all - l.walk.at

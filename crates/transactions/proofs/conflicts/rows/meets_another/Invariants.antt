use Rattle.std.proofs.Common.{◌≡◌, ◌≤◌, ◌-◌, drop, length}
use Rattle.transactions.proofs.PieceLemmas.{meets}
use Rattle.transactions.proofs.conflicts.rows.meets_another.Given as goal

-- what is left answers for all
abbrev pub invariant-loop-walk : goal.invariant-loop-walk
invariant-loop-walk g l = (l.walk.at ≤ length l.transactions) × (meets l.transaction l.changes (drop l.walk.at l.transactions) ≡ meets l.transaction l.changes l.transactions)

abbrev pub decreases-loop-walk : goal.decreases-loop-walk
decreases-loop-walk g l = length l.transactions - l.walk.at

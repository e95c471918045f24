use Rattle.std.proofs.Common.{◌≤◌, ◌-◌, length}
use Rattle.transactions.proofs.kept.stretch.first_row.Given as goal

-- the places so far are in order
abbrev pub invariant-loop-at : goal.invariant-loop-at
invariant-loop-at g l = (l.at ≤ l.to) × (l.to ≤ length l.transactions) × (l.found.0 ≤ l.found.1) × (l.found.1 ≤ length l.transactions)

abbrev pub decreases-loop-at : goal.decreases-loop-at
decreases-loop-at g l = l.at - l.end

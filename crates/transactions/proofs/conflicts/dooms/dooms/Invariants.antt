use Rattle.std.proofs.Common.{◌≡◌, ◌≤◌, ◌-◌, drop, fold, length}
use Rattle.value.specs.Isolation.{dooms, with_doom}
use Rattle.history.specs.Transactions.{node, reads_from}
use Rattle.transactions.proofs.conflicts.dooms.dooms.Given as goal

-- the causes so far, and those of what is left
abbrev pub invariant-loop-walk : goal.invariant-loop-walk
invariant-loop-walk g l = (l.walk.at ≤ length l.all) × (fold (with_doom node reads_from l.all l.committer) l.causes.items (drop l.walk.at l.all) ≡ dooms node reads_from l.all l.committer)

abbrev pub decreases-loop-walk : goal.decreases-loop-walk
decreases-loop-walk g l = length l.all - l.walk.at

use Rattle.std.proofs.Common.{◌≡◌, ◌≤◌, ◌-◌, drop, find, length}
use Rattle.value.specs.Isolation.{is_first}
use Rattle.history.specs.Transactions.{node, reads_from}
use Rattle.transactions.proofs.conflicts.dooms.first_before.Given as goal

-- what is left answers for all
abbrev pub invariant-loop-walk : goal.invariant-loop-walk
invariant-loop-walk g l = (l.walk.at ≤ length l.all) × (find (is_first node reads_from l.committer l.causes l.pivot) (drop l.walk.at l.all) ≡ find (is_first node reads_from l.committer l.causes l.pivot) l.all)

abbrev pub decreases-loop-walk : goal.decreases-loop-walk
decreases-loop-walk g l = length l.all - l.walk.at

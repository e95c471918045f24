use Rattle.std.proofs.Common.{◌≤◌, ◌-◌, length, drop}
use Rattle.std.specs.List.Sorted.{IsStrictlySortedBy}
use Rattle.schema.specs.Changing.{change_cmp}
use Rattle.transactions.proofs.statements.own.are_by_key.Given as goal

-- the last so many are by table, then by key
abbrev pub invariant-loop-rising : goal.invariant-loop-rising
invariant-loop-rising g l = (l.rising ≤ length l.changes) × IsStrictlySortedBy change_cmp (drop (l.rising - 1) l.changes)

abbrev pub decreases-loop-rising : goal.decreases-loop-rising
decreases-loop-rising g l = l.rising

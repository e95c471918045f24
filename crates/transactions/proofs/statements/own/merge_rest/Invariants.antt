use Rattle.std.proofs.Common.{◌≤◌, ◌-◌, length, take}
use Rattle.transactions.specs.Merged.{AreMerged}
use Rattle.transactions.proofs.statements.own.merge_rest.Given as goal

-- the changes so far are merged
abbrev pub invariant-loop-count : goal.invariant-loop-count
invariant-loop-count g l = (l.count ≤ length l.list) × AreMerged l.merged (take l.count l.list)

abbrev pub decreases-loop-count : goal.decreases-loop-count
decreases-loop-count g l = length l.list - l.count

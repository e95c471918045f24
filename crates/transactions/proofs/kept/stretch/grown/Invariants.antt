use Rattle.std.proofs.Common.{◌-◌}
use Rattle.transactions.specs.Stretches.{HoldsStretch}
use Rattle.transactions.proofs.kept.stretch.grown.Given as goal

-- it has those so far
abbrev pub invariant-loop-stretch : goal.invariant-loop-stretch
invariant-loop-stretch g l = HoldsStretch l.stretch l.transactions

abbrev pub decreases-loop-stretch : goal.decreases-loop-stretch
decreases-loop-stretch g l = l.limit - l.stretch.to

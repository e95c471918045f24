use Rattle.std.proofs.Common.{◌≤◌, length, take}
use Rattle.std.specs.List.{AllByRecursion}
use Rattle.transactions.proofs.kept.stretch.end_of.Given as goal

-- it is behind those so far
abbrev pub invariant-loop-stretch : goal.invariant-loop-stretch
invariant-loop-stretch g l = (l.end ≤ length l.transactions) × AllByRecursion (λ s. s.to ≤ l.end) (take l.stretch-index l.past)

use Rattle.std.proofs.Common.{◌≡◌, ◌-◌, length}
use Rattle.transactions.proofs.kept.stretch.Walk.passed.Given as goal

-- it stands where it stood
abbrev pub invariant-loop-self : goal.invariant-loop-self
invariant-loop-self g l = l.self.at ≡ l.initial.self.at

abbrev pub decreases-loop-self : goal.decreases-loop-self
decreases-loop-self g l = length l.past - l.self.next

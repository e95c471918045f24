use Rattle.std.proofs.Common.{◌-◌, length}
use Rattle.collector.specs.Gathered.{IsSameJob, GoesOn}
use Rattle.collector.proofs.sequence.Sequence.write_in_turn.Given as goal

-- the given pieces stay the same, and the device hasn't failed
abbrev pub invariant-loop-self : goal.invariant-loop-self
invariant-loop-self g l = IsSameJob l.initial.self l.self × GoesOn l.initial.self l.self

abbrev pub decreases-loop-self : goal.decreases-loop-self
decreases-loop-self g l = length l.self.texts - l.self.next

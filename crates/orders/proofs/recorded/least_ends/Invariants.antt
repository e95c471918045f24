use Rattle.orders.proofs.RecordedLemmas.{AreFrom}
use Rattle.orders.proofs.recorded.least_ends.Given as goal

abbrev pub invariant-loop-place : goal.invariant-loop-place
invariant-loop-place g l = AreFrom l.transactions l.place l.least l.ends.items

abbrev pub decreases-loop-place : goal.decreases-loop-place
decreases-loop-place g l = l.place

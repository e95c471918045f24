use Rattle.orders.proofs.RecordedLemmas.{BeginsFrom}
use Rattle.orders.proofs.recorded.earliest_of_rest.Given as goal

abbrev pub invariant-loop-place : goal.invariant-loop-place
invariant-loop-place g l = BeginsFrom l.transactions l.place l.earliest l.begins.items

abbrev pub decreases-loop-place : goal.decreases-loop-place
decreases-loop-place g l = l.place

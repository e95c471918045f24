use Rattle.orders.proofs.RecordedLemmas.{AreBefore}
use Rattle.orders.proofs.recorded.earliest_begins.Given as goal

abbrev pub invariant-loop-place : goal.invariant-loop-place
invariant-loop-place g l = AreBefore l.transactions l.place l.begins.items

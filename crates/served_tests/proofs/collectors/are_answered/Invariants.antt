use Rattle.std.proofs.Common.{◌≡◌}
use Rattle.served_tests.proofs.collectors.are_answered.Given as goal

-- the pieces stay what they were
abbrev pub invariant-loop-offer : goal.invariant-loop-offer
invariant-loop-offer g l =
    (goal.iterator-loop-offer g).can_next l.offer-iterator ×
    (goal.iterator-loop-offer g).is_finite l.offer-iterator ×
    (l.collector.texts ≡ l.initial.collector.texts)

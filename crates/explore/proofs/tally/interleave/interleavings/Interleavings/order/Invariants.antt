use Rattle.std.proofs.Common.{◌≡◌, ◌+◌, ◌++◌, [], sum, slice_index_or}
use Rattle.explore.specs.Interleavings.{interleavings}
use Rattle.explore.proofs.tally.interleave.interleavings.Interleavings.order.Given as goal

abbrev pub invariant-loop : goal.invariant-loop
invariant-loop g l = (sum l.rest.0 + l.counter ≡ l.end) × (slice_index_or (interleavings l.self) l.number [] ≡ l.order.items ++ l.rest.1) × (sum l.rest.0 ≡ 0 → l.rest.1 ≡ [])

use Rattle.std.proofs.Common.{◌≡◌, ◌++◌}
use Rattle.explore.proofs.tally.listing.ranking.with_refusals.Given as goal

-- the outcomes so far, and those that are left
abbrev pub invariant-loop-outcome : goal.invariant-loop-outcome
invariant-loop-outcome g l = l.told.items ++ l.outcome-iterator.rest.items ≡ l.fn.found.items

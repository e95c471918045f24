use Rattle.std.proofs.Common.{◌≡◌, ◌+◌}
use Rattle.explore.specs.Outcomes.{all_runs, joined}
use Rattle.explore.proofs.tally.outcomes.join.Given as goal

-- joining what is left gives the same
abbrev pub invariant-loop-outcome : goal.invariant-loop-outcome
invariant-loop-outcome g l = (joined l.found.items l.outcome-iterator.rest.items ≡ joined l.fn.found.items l.fn.later.items) ×
    (all_runs l.found.items + all_runs l.outcome-iterator.rest.items ≡ all_runs l.fn.found.items + all_runs l.fn.later.items)

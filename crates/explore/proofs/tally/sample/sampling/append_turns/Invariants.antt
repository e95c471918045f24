use Rattle.std.proofs.Common.{◌≡◌, ◌++◌, replicate}
use Rattle.explore.proofs.tally.sample.sampling.append_turns.Given as goal

-- the turns so far
abbrev pub invariant-loop : goal.invariant-loop
invariant-loop g l = l.order.items ≡ l.fn.order.items ++ replicate l.counter l.session

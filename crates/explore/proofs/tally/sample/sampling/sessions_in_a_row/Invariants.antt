use Rattle.std.proofs.Common.{◌≡◌, ◌++◌, drop}
use Rattle.explore.specs.Sampling.{in_a_row}
use Rattle.explore.proofs.tally.sample.sampling.sessions_in_a_row.Given as goal

-- the sessions so far, and those that are left
abbrev pub invariant-loop-session : goal.invariant-loop-session
invariant-loop-session g l = l.order.items ++ in_a_row l.session (drop l.session l.lines) ≡ in_a_row 0 l.lines

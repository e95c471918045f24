use Rattle.std.proofs.Common.{◌+◌, ◌≤◌}
use Rattle.siread.specs.Adding.{Settles}
use Rattle.siread.proofs.held.settle.Given as goal

-- the readings up to the counter were taken in
abbrev pub invariant-loop : goal.invariant-loop
invariant-loop g l = Settles l.initial.kept.items (l.settled + l.counter) l.kept.items l.left × (l.counter ≤ l.more)

use Rattle.std.proofs.Common.{ℕ}
use Rattle.server.specs.Calls.{HasWaited}
use Rattle.server.proofs.shared.poll_on.Given as goal

abbrev pub invariant-loop : goal.invariant-loop
invariant-loop g l =
    (goal.iterator-loop g).can_next l.iterator' × (goal.iterator-loop g).is_finite l.iterator' × ((n : ℕ) × HasWaited l.initial.pass l.pass n)

use Rattle.std.proofs.Common.{◌≡◌, ◌≤◌}
use Rattle.terminal.specs.Admitted.{open_in}
use Rattle.terminal.proofs.admitting.open_in.Given as goal

-- the sessions so far
abbrev pub invariant-loop-number : goal.invariant-loop-number
invariant-loop-number g l = (l.open ≡ open_in l.shell l.number) × (l.open ≤ l.number)

use Rattle.std.proofs.Common.{◌≡◌}
use Rattle.command_shell.specs.Asides.{numbers_to}
use Rattle.command_shell.proofs.prompt.recalled.numbers.Given as goal

-- the numbers so far
abbrev pub invariant-loop-number : goal.invariant-loop-number
invariant-loop-number g l = l.numbers.items ≡ numbers_to l.number

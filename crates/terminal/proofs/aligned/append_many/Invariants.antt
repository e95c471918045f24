use Rattle.std.proofs.Common.{◌≡◌, ◌++◌, replicate}
use Rattle.terminal.proofs.aligned.append_many.Given as goal

abbrev pub invariant-loop : goal.invariant-loop
invariant-loop g l = l.text.items ≡ l.initial.text.items ++ replicate l.counter l.byte

use Rattle.std.proofs.Common.{◌≡◌, ◌++◌, length}
use Rattle.terminal.specs.Drawn.{shown}
use Rattle.terminal.proofs.drawing.shown.Given as goal

-- what is left goes on from here
abbrev pub invariant-loop-rest : goal.invariant-loop-rest
invariant-loop-rest g l = l.shown.items ++ shown l.rest ≡ shown l.text

abbrev pub decreases-loop-rest : goal.decreases-loop-rest
decreases-loop-rest g l = length l.rest

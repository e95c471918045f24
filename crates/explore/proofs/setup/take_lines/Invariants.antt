use Rattle.std.proofs.Common.{take}
use Rattle.explore.specs.Setups.{AreTaken}
use Rattle.explore.proofs.setup.take_lines.Given as goal

-- the lines so far were done
abbrev pub invariant-loop-line : goal.invariant-loop-line
invariant-loop-line g l = AreTaken l.initial.core (take l.line-index l.lines) l.core

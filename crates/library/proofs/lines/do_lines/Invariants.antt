use Rattle.std.proofs.Common.{take}
use Rattle.library.specs.Doing.{LinesAreDone}
use Rattle.library.proofs.lines.do_lines.Given as goal

-- the lines so far were done, and this is their output
abbrev pub invariant-loop-line : goal.invariant-loop-line
invariant-loop-line g l = LinesAreDone l.manner l.initial.core (take l.line-index l.lines) l.core l.text.items

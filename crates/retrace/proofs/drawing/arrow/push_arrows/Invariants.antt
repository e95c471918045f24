use Rattle.std.proofs.Common.{◌≡◌, ◌++◌, take}
use Rattle.retrace.specs.Arrows.{arrows_from}
use Rattle.retrace.proofs.drawing.arrow.push_arrows.Given as goal

-- the reader's conflicts so far
abbrev pub invariant-loop-writer : goal.invariant-loop-writer
invariant-loop-writer g l = l.made.items ≡ l.fn.made.items ++ arrows_from (take l.writer-index l.runs) l.reader

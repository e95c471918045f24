use Rattle.std.proofs.Common.{◌≡◌, take}
use Rattle.retrace.specs.Lives.{bars}
use Rattle.retrace.proofs.drawing.bar.bars.Given as goal

-- the bars so far
abbrev pub invariant-loop-run : goal.invariant-loop-run
invariant-loop-run g l = l.made.items ≡ bars l.records (take l.run-index l.runs)

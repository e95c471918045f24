use Rattle.std.proofs.Common.{◌≡◌, ◌++◌}
use Rattle.retrace.specs.Arrows.{drawn}
use Rattle.retrace.proofs.drawing.arrow.drawn.Given as goal

-- those kept so far
abbrev pub invariant-loop-run : goal.invariant-loop-run
invariant-loop-run g l = (l.yielded ++ l.run-iterator.rest.items ≡ l.fn.runs.items) × (l.kept.items ≡ drawn l.records l.first l.yielded)

use Rattle.std.proofs.Common.{◌≡◌, take}
use Rattle.std.specs.List.{flat_map}
use Rattle.retrace.specs.Arrows.{arrows_from}
use Rattle.retrace.specs.Runs.{Going}
use Rattle.retrace.proofs.drawing.arrow.arrows.Given as goal

-- the conflicts of the readers so far
abbrev pub invariant-loop-reader : goal.invariant-loop-reader
invariant-loop-reader g l = l.made.items ≡ flat_map (λ (h : Going _). arrows_from l.runs h.trace) (take l.reader-index l.runs)

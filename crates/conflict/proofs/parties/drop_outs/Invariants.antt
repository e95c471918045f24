use Rattle.std.proofs.Common.{◌≡◌, map, take}
use Rattle.conflict.specs.Undo.{AreSorted, unreading}
use Rattle.conflict.proofs.parties.drop_outs.Given as goal

-- those so far don't know it
abbrev pub invariant-loop-reader : goal.invariant-loop-reader
invariant-loop-reader g l = (l.parties.items ≡ map (unreading l.writer (take l.reader-index l.readers)) l.initial.parties.items) × AreSorted l.parties.items

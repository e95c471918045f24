use Rattle.std.proofs.Common.{◌≡◌, map, take}
use Rattle.transcript.proofs.reader.kinds_of_all.Given as goal

-- the kinds so far
abbrev pub invariant-loop-column : goal.invariant-loop-column
invariant-loop-column g l = l.kinds.items ≡ map (λ c. c.kind) (take l.column-index l.columns)

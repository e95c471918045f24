use Rattle.std.proofs.Common.{◌≡◌, map, take}
use Rattle.restore.proofs.rows.kinds_of.Given as goal

-- the kinds so far
abbrev pub invariant-loop-column : goal.invariant-loop-column
invariant-loop-column g l = l.kinds.items ≡ map (λ d. d.kind) (take l.column-index l.columns)

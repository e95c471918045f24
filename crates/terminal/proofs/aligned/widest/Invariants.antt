use Rattle.std.proofs.Common.{◌≡◌, map}
use Rattle.terminal.specs.Tables as spec
use Rattle.terminal.proofs.aligned.widest.Given as goal

-- the greatest width in the rows so far
abbrev pub invariant-loop-row : goal.invariant-loop-row
invariant-loop-row l = l.widest ≡ spec.widest (map (λ r. r.now) l.rows) l.column l.row-index

use Rattle.std.proofs.Common.{◌≡◌, ◌∷◌, take}
use Rattle.statement.proofs.evaluate.rows.cells.Given as goal

-- the key, and the fields so far
abbrev pub invariant-loop-field : goal.invariant-loop-field
invariant-loop-field g l = l.values.items ≡ l.row.0 ∷ take l.field-index l.field-items

use Rattle.std.proofs.Common.{◌≡◌, map, take}
use Rattle.schema.specs.Plain.{cells}
use Rattle.statement.proofs.evaluate.select.show_all.Given as goal

-- the rows so far
abbrev pub invariant-loop-row : goal.invariant-loop-row
invariant-loop-row g l = l.shown.items ≡ map cells (map (λ row. row.now) (take l.row-index l.rows))

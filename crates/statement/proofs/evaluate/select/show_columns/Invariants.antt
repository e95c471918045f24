use Rattle.std.proofs.Common.{◌≡◌, map, take}
use Rattle.schema.specs.Plain.{field}
use Rattle.statement.proofs.evaluate.select.show_columns.Given as goal

-- the rows so far
abbrev pub invariant-loop-row : goal.invariant-loop-row
invariant-loop-row g l = l.shown.items ≡ map (λ row. map (field row) l.columns) (map (λ row. row.now) (take l.row-index l.rows))

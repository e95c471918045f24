use Rattle.std.proofs.Common.{◌≡◌, map, take}
use Rattle.schema.specs.Plain.{field}
use Rattle.statement.proofs.evaluate.select.fields.Given as goal

-- the values of the columns so far
abbrev pub invariant-loop-column : goal.invariant-loop-column
invariant-loop-column g l = l.values.items ≡ map (field l.row) (take l.column-index l.columns)

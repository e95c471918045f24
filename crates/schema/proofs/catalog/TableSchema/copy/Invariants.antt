use Rattle.std.proofs.Common.{◌≡◌, take}
use Rattle.schema.proofs.catalog.TableSchema.copy.Given as goal

-- the columns so far
abbrev pub invariant-loop-column : goal.invariant-loop-column
invariant-loop-column g l = l.columns.items ≡ take l.column-index l.column-items

use Rattle.std.proofs.Common.{◌≡◌, map, take}
use Rattle.schema.specs.Adding.{resolved_column}
use Rattle.schema.proofs.catalog.Catalog.resolved.Given as goal

-- the columns resolved so far
abbrev pub invariant-loop-column : goal.invariant-loop-column
invariant-loop-column g l = l.columns.items ≡ map (resolved_column l.self) (take l.column-index l.column-items)

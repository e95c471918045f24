use Rattle.std.proofs.Common.{◌≡◌, [], map, take}
use Rattle.schema.proofs.tables.Tables.new.Given as goal

-- one empty table for each of the catalog's so far
abbrev pub invariant-loop : goal.invariant-loop
invariant-loop g l = l.tables.items ≡ map (λ d. []) (take l.counter l.catalog)

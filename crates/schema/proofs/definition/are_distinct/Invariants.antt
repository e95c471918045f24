use Rattle.std.proofs.Common.{◌≡◌, map, drop}
use Rattle.schema.specs.Adding.{have_new_names, are_distinct}
use Rattle.schema.proofs.definition.are_distinct.Given as goal

-- the names of the columns so far, and whether the rest have new ones
abbrev pub invariant-loop-column : goal.invariant-loop-column
invariant-loop-column g l = have_new_names (map (λ name. name.now) l.names.keys) (drop l.column-index l.columns) ≡ are_distinct l.columns

use Rattle.std.proofs.Common.{◌≡◌, ◌++◌, map, take}
use Rattle.std.specs.List.{filter}
use Rattle.schema.specs.Walking.{lent}
use Rattle.statement.specs.Conditions.{satisfies}
use Rattle.statement.proofs.evaluate.chosen.push_batch.Given as goal

-- those of the rows so far are added
abbrev pub invariant-loop-row : goal.invariant-loop-row
invariant-loop-row g l = map (λ row. row.now) l.chosen.items ≡ map (λ row. row.now) l.initial.chosen.items ++ filter (satisfies l.conditions) (lent (take l.row-index l.batch))

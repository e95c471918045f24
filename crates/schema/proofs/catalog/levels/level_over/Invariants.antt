use Rattle.std.proofs.Common.{◌≡◌, ◌≤◌, ◌+◌, length, take}
use Rattle.schema.specs.Levels.{level_over}
use Rattle.schema.proofs.catalog.levels.level_over.Given as goal

-- the greatest level over the columns so far
abbrev pub invariant-loop-column : goal.invariant-loop-column
invariant-loop-column g l = (l.level ≡ level_over l.levels (take l.column-index l.columns)) × (l.level ≤ length l.levels + 1)

use Rattle.std.proofs.Common.{◌≡◌, ◌≤◌, ℕ, take, vec_len, get_or}
use Rattle.schema.specs.Levels.{AreLevels}
use Rattle.schema.proofs.catalog.Catalog.levels.Given as goal

-- the tables so far have their levels, none of which is above their number
abbrev pub invariant-loop-place : goal.invariant-loop-place
invariant-loop-place g l = AreLevels (take l.place l.self) l.levels.items × (vec_len l.levels ≡ l.place) × ((k : ℕ) → get_or l.levels.items k 0 ≤ l.place)

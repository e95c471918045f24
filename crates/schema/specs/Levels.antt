-- How far the references of a catalog's tables lead.
-- Source: this project's choice.
use Rattle.std.specs.Prelude.{◌≡◌, ℕ, ◌+◌, max, List, map, fold, slice_index}
use Rattle.std.specs.Option.{option_map_or}
use Rattle.schema.specs.Definition.{Column, Catalog}

-- one above the level of the table that a column references; 0 where it references none
abbrev pub level_above : List ℕ → Column → ℕ
level_above levels column = option_map_or (λ t. slice_index levels t + 1) column.references 0

-- the greatest of these over some columns
abbrev pub level_over : List ℕ → List Column → ℕ
level_over levels columns = fold (λ n column. max n (level_above levels column)) 0 columns

-- each table has its level: 0 where it references none, else one above the greatest level that it references
abbrev pub AreLevels : Catalog → List ℕ → Type 0
AreLevels c levels = levels ≡ map (λ d. level_over levels d.columns) c

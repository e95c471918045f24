-- Walking over the rows of a table, many of which are read at once.
use Rattle.std.specs.Prelude.{ℕ, ◌≡◌, List, [], ◌∷◌, ◌++◌, map, drop, Option, Some, None}
use Rattle.std.specs.Borrow.{Bor}
use Rattle.schema.specs.declared.row.Row.{Row}
use Rattle.schema.specs.Rows.{Rows, rows_after}

module _ {A : Type 0} where
  -- rows that are lent, as they are
  abbrev pub lent : List (Bor (Row A)) → Rows A
  lent rows = map (λ row. row.now) rows

  -- the rows of a table behind those read; none where none was read
  abbrev pub rows_behind : Rows A → Rows A → Rows A
  rows_behind rows [] = []
  rows_behind rows (last ∷ []) = rows_after rows last.0
  rows_behind rows (first ∷ second ∷ more) = rows_behind rows (second ∷ more)

  -- the rows still to come, where those of a batch from a place on were not given yet
  abbrev pub rows_to_come : Rows A → Rows A → ℕ → Rows A
  rows_to_come rows batch place = drop place batch ++ rows_behind rows batch

  -- a step of a walk: the first row to come is given, where there is one
  abbrev pub IsStep : Rows A → Option (Bor (Row A)) → Rows A → Type 0
  IsStep rows None rest = (rows ≡ []) × (rest ≡ [])
  IsStep rows (Some row) rest = rows ≡ row.now ∷ rest

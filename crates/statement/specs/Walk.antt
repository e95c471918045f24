-- What evaluating a statement asks of the tables that it reads, and words for what it reads there.
use Rattle.std.specs.Prelude.{◌≡◌, ◌==◌, ◌<◌, length, Bool, true, false, not, ◌&&◌, Option, Some, None, List, [], ◌∷◌, ◌++◌}
use Rattle.std.specs.Borrow.{Bor}
use Rattle.std.specs.List.{list_all, filter, All, AllByRecursion}
use Rattle.std.specs.declared.cmp.Ordering.TheVariants.{Equal}
use Rattle.std.specs.FinMap.{is_sorted}
use Rattle.value.specs.declared.value.Value.{Value}
use Rattle.value.specs.Order.{value_cmp}
use Rattle.schema.specs.Definition.{Column, Catalog}
use Rattle.schema.specs.declared.row.Row.{Row}
use Rattle.schema.specs.declared.tables.Tables.{Tables}
use Rattle.schema.specs.Plain.{is_null, cells}
use Rattle.schema.specs.Rows.{IsInKeyOrder}
use Rattle.statement.specs.declared.condition.Comparison.{Comparison}
use Rattle.statement.specs.declared.condition.Comparison.TheVariants as is
use Rattle.statement.specs.declared.condition.Condition.{Condition}
use Rattle.statement.specs.declared.condition.Condition.TheVariants.{Compare, Between}
use Rattle.statement.specs.declared.reading.End.{End}
use Rattle.statement.specs.declared.reading.End.TheVariants.{Closed, Open}
use Rattle.statement.specs.declared.statement.Projection.{Projection}
use Rattle.statement.specs.declared.statement.Projection.TheVariants as shown
use Rattle.statement.specs.Conditions.{satisfies}
use Rattle.statement.specs.Cover.{is_from, is_to}
use Rattle.statement.specs.Select.{HasColumns}
use Rattle.statement.specs.Footprint.{Interval, Span, at_value}
use Rattle.statement.specs.Fits.{literals_fit}

-- an option as a list of one, or of none
abbrev pub listed : {T : Type 0} → Option T → List T
listed None = []
listed (Some x) = x ∷ []

-- a key between two that compare so with a value compares so with it, too
abbrev pub is_bound : Comparison → Bool
is_bound is.Less = true
is_bound is.LessOrEqual = true
is_bound is.Greater = true
is_bound is.GreaterOrEqual = true
is_bound _ = false

module _ {A : Type 0} where
  -- a condition on the key that is met between two keys that meet it
  abbrev pub bounds_key : Condition A → Bool
  bounds_key (Compare n how v) = n == 0 && is_bound how
  bounds_key (Between n low high) = n == 0
  bounds_key _ = false

  -- ---- keys

  -- the keys from one value to another, both included; none where one is null
  abbrev pub between_values : Value A → Value A → Interval A
  between_values low high = at_value low (at_value high (Span (Closed low) (Closed high)))

  -- ---- the tables of a catalog

  -- a row of a table with these columns: its key isn't null, and it has one value of its kind for each column
  abbrev pub is_row_of : List Column → Row A → Bool
  is_row_of columns row = not (is_null row.0) && literals_fit columns (cells row)

  -- The tables are the catalog's: as many, their rows in key order, each with the columns of its table.
  abbrev pub are_of : Catalog → Tables A → Bool
  are_of [] [] = true
  are_of (d ∷ ds) (rows ∷ more) = is_sorted value_cmp rows && list_all (is_row_of d.columns) rows && are_of ds more
  are_of _ _ = false

  -- ---- the rows that a WHERE chooses

  -- A row has the columns of the conditions; and where it satisfies them, its key is between two ends.
  pub record IsWithin (conditions : List (Condition A)) (low high : End A) (row : Row A) : Type 0 where
    pub columns : HasColumns conditions row
    pub above : satisfies conditions row ≡ true → is_from low row.0 ≡ true
    pub below : satisfies conditions row ≡ true → is_to high row.0 ≡ true

  -- no row behind these satisfies the conditions, where all that do are up to an upper end
  abbrev pub NoneBehind : List (Condition A) → End A → List (Row A) → Type 0
  NoneBehind conditions high rows = (more : List (Row A)) → IsInKeyOrder (rows ++ more) → AllByRecursion (λ row. IsWithin conditions Open high row) more → filter (satisfies conditions) more ≡ []

  -- A row has the columns of the conditions; and where it satisfies them, it has this key.
  pub record IsAt (conditions : List (Condition A)) (key : Value A) (row : Row A) : Type 0 where
    pub columns : HasColumns conditions row
    pub at : satisfies conditions row ≡ true → value_cmp key row.0 ≡ Equal

  -- A row with a key has the columns of the conditions.
  pub record IsReadable (conditions : List (Condition A)) (row : Row A) : Type 0 where
    pub columns : HasColumns conditions row
    pub key : is_null row.0 ≡ false

  -- rows in key order, each of which can be tried
  pub record AreReadable (conditions : List (Condition A)) (rows : List (Row A)) : Type 0 where
    pub sorted : is_sorted value_cmp rows ≡ true
    pub each : AllByRecursion (λ row. IsReadable conditions row) rows

  -- ---- what is shown of rows

  -- the rows have the columns that are shown
  abbrev pub HasShown : Projection A → List (Bor (Row A)) → Type 0
  HasShown (shown.Columns ns) rows = All (λ row. All (λ n. n < length (cells row.now)) ns) rows
  HasShown shown.All rows = Unit {0}
  HasShown shown.Count rows = Unit {0}

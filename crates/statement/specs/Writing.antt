-- The rows that a statement writes, and their references.
use Rattle.std.specs.Prelude.{◌≡◌, ℕ, true, Some, List}
use Rattle.std.specs.List.{AllByRecursion, flat_map}
use Rattle.std.specs.FinMap.{is_sorted}
use Rattle.value.specs.Order.{value_cmp}
use Rattle.schema.specs.Definition.{Column}
use Rattle.schema.specs.declared.row.Row.{Row}
use Rattle.schema.specs.declared.tables.Tables.{Tables}
use Rattle.schema.specs.Plain.{row_at}
use Rattle.statement.specs.declared.outcome.Mark.{Mark}
use Rattle.statement.specs.Marks.{references_of}

module _ {A : Type 0} where
  -- These are rows of a table, in key order.
  pub record AreRowsOf (X : Tables A) (t : ℕ) (rows : List (Row A)) : Type 0 where
    pub sorted : is_sorted value_cmp rows ≡ true
    pub each : AllByRecursion (λ row. row_at X t row.0 ≡ Some row.1) rows

  -- the references of rows of a table, one row after another
  abbrev pub references_of_rows : ℕ → List Column → List (Row A) → List (Mark A)
  references_of_rows t ds rows = flat_map (λ row. references_of t ds row.0 (Some row.1)) rows

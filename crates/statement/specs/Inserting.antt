-- Why an INSERT is refused.
use Rattle.std.specs.Prelude.{ℕ, if◌then◌else◌, Option, Some, None, is_some, [], ◌∷◌}
use Rattle.value.specs.declared.refusal.Code.TheVariants as code
use Rattle.value.specs.declared.refusal.Refusal.{Refusal}
use Rattle.value.specs.Isolation.{first_some}
use Rattle.schema.specs.Definition.{Catalog}
use Rattle.schema.specs.declared.row.Row.{Row}
use Rattle.schema.specs.declared.tables.Tables.{Tables}
use Rattle.schema.specs.Plain.{cells, columns_of, row_at}
use Rattle.statement.specs.Evaluation.{at_column, lacks_row, lacks_value, least_column}

module _ {A : Type 0} where
  -- the first fault of a row for table t: null where none may be, then a key that is taken, then a reference to a row that isn't there
  abbrev pub inserting_fault : Catalog → ℕ → Row A → Tables A → Option Refusal
  inserting_fault c t row X =
      first_some (λ fault. fault) (
      at_column code.NotNullViolation (least_column lacks_value 0 (columns_of c t) (cells row))
      ∷ at_column code.UniqueViolation (if is_some (row_at X t row.0) then Some 0 else None)
      ∷ at_column code.ForeignKeyViolation (least_column (lacks_row X) 0 (columns_of c t) (cells row))
      ∷ []
      )

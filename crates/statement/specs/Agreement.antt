-- Tables that agree where a statement reads.
use Rattle.std.specs.Prelude.{◌≡◌, ℕ, ◌==◌, Bool, true, ◌&&◌, if◌then◌else◌, Option, Some, None, List}
use Rattle.std.specs.List.{list_any}
use Rattle.value.specs.declared.value.Value.{Value}
use Rattle.schema.specs.declared.tables.Tables.{Tables}
use Rattle.schema.specs.Plain.{same, field, row_at}
use Rattle.statement.specs.declared.reading.Reading.{Reading}
use Rattle.statement.specs.Cover.{has_key, has_reference}

module _ {A : Type 0} where
  -- key k of table t was read
  abbrev pub reads_key : List (Reading A) → ℕ → Value A → Bool
  reads_key rs t k = list_any (λ r. r.table == t && has_key k r.extent) rs

  -- the rows of table t with k in column j were read
  abbrev pub reads_value : List (Reading A) → ℕ → ℕ → Value A → Bool
  reads_value rs t j k = list_any (λ r. r.table == t && has_reference j k r.extent) rs

  -- the fields of a row, where it has k in column j
  abbrev pub if_naming : ℕ → Value A → Value A → Option (List (Value A)) → Option (List (Value A))
  if_naming j k p None = None
  if_naming j k p (Some fields) = if same k (field (p, fields) j) then Some fields else None

  -- the row of key p in table t, where it has k in column j
  abbrev pub row_naming : Tables A → ℕ → ℕ → Value A → Value A → Option (List (Value A))
  row_naming X t j k p = if_naming j k p (row_at X t p)

  -- The same rows and absences where the readings are; and for each reference that was read, the same rows with it.
  pub record Agree (rs : List (Reading A)) (X Y : Tables A) : Type 0 where
    pub at : (t : ℕ) (k : Value A) → reads_key rs t k ≡ true → row_at X t k ≡ row_at Y t k
    pub naming : (t j : ℕ) (k : Value A) → reads_value rs t j k ≡ true → (p : Value A) → row_naming X t j k p ≡ row_naming Y t j k p

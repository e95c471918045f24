-- Rows of a table and changes of their keys, walked side by side.
-- Source: this project's choice.
use Rattle.std.specs.Prelude.{◌≡◌, ℕ, Bool, false, if◌then◌else◌, Option, Some, None, [], ◌∷◌, slice_get}
use Rattle.std.specs.Ordering.{is_lt}
use Rattle.value.specs.declared.key.Key.{Key}
use Rattle.value.specs.declared.value.Value.{Value}
use Rattle.value.specs.Order.{value_cmp}
use Rattle.schema.specs.declared.row.Row.{Row}
use Rattle.schema.specs.Plain.{same}
use Rattle.schema.specs.Rows.{Rows}
use Rattle.schema.specs.Walking.{rows_to_come}
use Rattle.snapshot.specs.Overlaid.{is_before}

module _ {A : Type 0} where
  -- where no row stands at a place of a batch, none is to come
  abbrev pub HasFirst : Rows A → Rows A → ℕ → Type 0
  HasFirst rows batch place = slice_get batch place ≡ None → rows_to_come rows batch place ≡ []

  -- the rows behind that of a key, where it is the first; else all
  abbrev pub past_key : Key A → Rows A → Rows A
  past_key key [] = []
  past_key key (row ∷ rows) = if same key row.0 then rows else row ∷ rows

  -- a row, if there is one
  abbrev pub listed : Option (Row A) → Rows A
  listed None = []
  listed (Some row) = row ∷ []

  -- a key and what is said of it, where no row comes before it
  abbrev pub unless_before : Option (Row A) → Option (Value A × Option (Row A)) → Option (Value A × Option (Row A))
  unless_before row None = None
  unless_before row (Some change) = if is_before row change.0 then None else Some change

  -- there are rows, the last of a lesser key
  abbrev pub last_is_before : Rows A → Key A → Bool
  last_is_before [] key = false
  last_is_before (row ∷ []) key = is_lt (value_cmp row.0 key)
  last_is_before (row ∷ next ∷ rows) key = last_is_before (next ∷ rows) key

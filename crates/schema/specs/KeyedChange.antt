-- How the code keeps the changes of a table: each beside its key.
use Rattle.std.specs.Prelude.{Option, List, map}
use Rattle.std.specs.Option.{option_map}
use Rattle.value.specs.declared.value.Value.{Value}
use Rattle.schema.specs.declared.row.Row.{Row}

-- what is said of one key: the fields beside it from now on, or that it has no row any more
abbrev pub KeyedChange : Type 0 → Type 0
KeyedChange A = Value A × Option (List (Value A))

module _ {A : Type 0} where
  -- entries by the fields of their rows
  abbrev pub shown_changes : List (Value A × Option (Row A)) → List (KeyedChange A)
  shown_changes entries = map (λ e. (e.0, option_map (λ row. row.1) e.1)) entries

  -- and back: each row with its key
  abbrev pub own_rows : List (KeyedChange A) → List (Value A × Option (Row A))
  own_rows changes = map (λ c. (c.0, option_map (λ fields. (c.0, fields)) c.1)) changes

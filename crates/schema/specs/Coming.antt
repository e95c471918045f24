-- The changes of a table that are still to come in a walk over them.
-- Source: this project's choice.
use Rattle.std.specs.Prelude.{ℕ, ◌==◌, ◌&&◌, Option, Some, None, List, [], map, filter}
use Rattle.std.specs.Borrow.{Bor}
use Rattle.value.specs.declared.key.Key.{Key}
use Rattle.value.specs.declared.value.Value.{Value}
use Rattle.schema.specs.declared.changes.Change.{Change}
use Rattle.schema.specs.declared.reader.Bound.{Bound}
use Rattle.schema.specs.declared.row.Row.{Row}
use Rattle.schema.specs.Changing.{new_row, own_row}
use Rattle.schema.specs.KeyedChange.{KeyedChange}
use Rattle.schema.specs.Rows.{is_within}

module _ {A : Type 0} where
  -- the key of a change, and its new row or that it has none
  abbrev pub said_of : Change A → Value A × Option (Row A)
  said_of x = (x.key, new_row x)

  -- what the changes of a table within a bound say
  abbrev pub coming : List (Change A) → ℕ → Bound (Bor (Key A)) → List (Value A × Option (Row A))
  coming xs t bound = map said_of (filter (λ x. x.table == t && is_within bound x.key) xs)

  -- what the changes of one table within a bound say
  abbrev pub keyed_coming : List (KeyedChange A) → Bound (Bor (Key A)) → List (Value A × Option (Row A))
  keyed_coming cs bound = map (λ c. (c.0, own_row c)) (filter (λ c. is_within bound c.0) cs)

  -- what is left of a map, where there is one; else of a list
  abbrev pub left : Option (List (Value A × Option (Row A))) → Option (Bor (List (Change A))) → List (Value A × Option (Row A))
  left (Some entries) listed = entries
  left None (Some list) = map said_of list.now
  left None None = []

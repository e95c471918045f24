-- What the code keeps of a changed key.
use Rattle.std.specs.Prelude.{Option, Some, None, List}
use Rattle.value.specs.declared.value.Value.{Value}
use Rattle.schema.specs.declared.changes.Said.{Said}
use Rattle.schema.specs.declared.changes.Said.TheVariants.{There, Gone}

module _ {A : Type 0} where
  -- the key of a row, or the one that has none any more
  abbrev pub said_key : Said A → Value A
  said_key (There row) = row.0
  said_key (Gone key) = key

  -- the fields beside it, if it has a row
  abbrev pub said_fields : Said A → Option (List (Value A))
  said_fields (There row) = Some row.1
  said_fields (Gone key) = None

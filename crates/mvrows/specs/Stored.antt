-- How the code keeps the versions of a key: each row with its key.
use Rattle.std.specs.Prelude.{ℕ, nat_le, find, option_and_then, Option, Some, List, [], ◌∷◌}
use Rattle.std.specs.Option.{option_map}
use Rattle.value.specs.declared.value.Value.{Value}
use Rattle.schema.specs.declared.row.Row.{Row}
use Rattle.mvrows.specs.declared.version_list.Stored.{Stored}
use Rattle.mvrows.specs.Versions.{Version, KeyVersions}

module _ {A : Type 0} where
  -- what a stored version says
  abbrev pub told : Stored A → Version A
  told s = record { number = s.number; fields = option_map (λ row. row.1) s.row }

  -- a version as it is stored with its key
  abbrev pub stored : Value A → Version A → Stored A
  stored key v = record { number = v.number; row = option_map (λ fields. (key, fields)) v.fields }

  -- the row of the newest stored version not above a snapshot
  abbrev pub stored_row : ℕ → List (Stored A) → Option (Row A)
  stored_row snapshot versions = option_and_then (λ s. s.row) (find (λ s. nat_le s.number snapshot) versions)

  -- a row that is its key's only version
  abbrev pub only_row : ℕ → Row A → KeyVersions A
  only_row number row = record { key = row.0; versions = record { number = number; fields = Some row.1 } ∷ [] }

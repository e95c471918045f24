-- A key's versions, with a list or without.
use Rattle.std.specs.Prelude.{Bool, true, false, Some, List, [], ◌∷◌}
use Rattle.mvrows.specs.declared.chain.Kept.{Kept}
use Rattle.mvrows.specs.declared.chain.Kept.TheVariants.{One, Listed}
use Rattle.mvrows.specs.declared.version_list.Stored.{Stored}
use Rattle.mvrows.specs.Versions.{KeyVersions}
use Rattle.mvrows.specs.Stored.{stored, only_row}

module _ {A : Type 0} where
  abbrev pub kept_versions : Kept A → KeyVersions A
  kept_versions (One number row) = only_row number row
  kept_versions (Listed list) = list

  -- what is kept without a list
  abbrev pub kept_alone : Kept A → List (Stored A)
  kept_alone (One number row) = stored row.0 (record { number = number; fields = Some row.1 }) ∷ []
  kept_alone (Listed list) = []

  abbrev pub is_alone : Kept A → Bool
  is_alone (One number row) = true
  is_alone (Listed list) = false

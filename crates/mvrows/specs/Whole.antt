-- From which snapshot on each key of a page shows a row.
use Rattle.std.specs.Prelude.{◌≡◌, ◌≤◌, ℕ, true, is_some, Option, IfSome, List, [], ◌∷◌}
use Rattle.std.specs.List.{AllByRecursion}
use Rattle.mvrows.specs.Versions.{Version, VersionedRows}

module _ {A : Type 0} where
  -- the newest version is a row, of a commit not above a number
  abbrev pub IsNewestRow : ℕ → List (Version A) → Type 0
  IsNewestRow number [] = ⊥
  IsNewestRow number (v ∷ vs) = (v.number ≤ number) × (is_some v.fields ≡ true)

  -- so it is for each key
  abbrev pub AreRowsFrom : ℕ → VersionedRows A → Type 0
  AreRowsFrom number rows = AllByRecursion (λ k. IsNewestRow number k.versions) rows

  -- where such a number is known, it is right
  abbrev pub IsWhole : Option ℕ → VersionedRows A → Type 0
  IsWhole whole rows = IfSome whole (λ number. AreRowsFrom number rows)

-- What is left of versions when no snapshot below a number will be read any more.
-- Source: PostgreSQL manual, Routine Vacuuming, on recovering disk space.
use Rattle.std.specs.Prelude.{ℕ, ◌≤◌, ◌≡◌, nat_le, Bool, true, false, is_some, if◌then◌else◌, Option, Some, None, IfSome, List, [], ◌∷◌, length, map, filter}
use Rattle.std.specs.List.{AllByRecursion}
use Rattle.mvrows.specs.Versions.{Version, KeyVersions, VersionedRows}

-- the last commit of a key is as before, or was not above the number and is forgotten
abbrev pub KeepsNewest : ℕ → Option ℕ → Option ℕ → Type 0
KeepsNewest oldest before None = IfSome before (λ n. n ≤ oldest)
KeepsNewest oldest before (Some n) = before ≡ Some n

module _ {A : Type 0} where
  -- a version that no newer one hides from these snapshots, unless it is an absence
  abbrev pub if_row : Version A → List (Version A)
  if_row v = if is_some v.fields then v ∷ [] else []

  -- the versions above a number, and the newest other, unless it is an absence
  abbrev pub pruned_versions : ℕ → List (Version A) → List (Version A)
  pruned_versions oldest [] = []
  pruned_versions oldest (v ∷ vs) = if nat_le v.number oldest then if_row v else v ∷ pruned_versions oldest vs

  abbrev pub pruned_key : ℕ → KeyVersions A → KeyVersions A
  pruned_key oldest k = record k { versions = pruned_versions oldest k.versions }

  abbrev pub are_some : List (Version A) → Bool
  are_some [] = false
  are_some (v ∷ vs) = true

  -- a key has a version left
  abbrev pub has_version : KeyVersions A → Bool
  has_version k = are_some k.versions

  -- a table's keys that have versions left
  abbrev pub pruned_rows : ℕ → VersionedRows A → VersionedRows A
  pruned_rows oldest rows = filter has_version (map (pruned_key oldest) rows)

  abbrev pub pruned : ℕ → List (VersionedRows A) → List (VersionedRows A)
  pruned oldest tables = map (pruned_rows oldest) tables

  -- ---- what pruning leaves

  -- at most one version isn't above the number
  abbrev pub IsPruned : ℕ → KeyVersions A → Type 0
  IsPruned oldest k = length (filter (λ v. nat_le v.number oldest) k.versions) ≤ 1

  -- of each key of each table at most one version isn't above the number
  abbrev pub ArePruned : ℕ → List (VersionedRows A) → Type 0
  ArePruned oldest tables = AllByRecursion (AllByRecursion (IsPruned oldest)) tables

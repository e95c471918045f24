-- Versions without those of a commit that wasn't finished.
use Rattle.std.specs.Prelude.{ℕ, Bool, nat_lt, if◌then◌else◌, List, [], ◌∷◌, map, filter}
use Rattle.mvrows.specs.Versions.{Version, KeyVersions, VersionedRows}
use Rattle.mvrows.specs.Pruning.{has_version}

module _ {A : Type 0} where
  -- the versions from the newest one below a number on
  abbrev pub versions_before : ℕ → List (Version A) → List (Version A)
  versions_before commit [] = []
  versions_before commit (v ∷ vs) = if nat_lt v.number commit then v ∷ vs else versions_before commit vs

  abbrev pub key_before : ℕ → KeyVersions A → KeyVersions A
  key_before commit k = record k { versions = versions_before commit k.versions }

  -- a table's keys that have such versions
  abbrev pub rows_before : ℕ → VersionedRows A → VersionedRows A
  rows_before commit rows = filter has_version (map (key_before commit) rows)

  -- a key has a version from before a commit
  abbrev pub was_there : ℕ → KeyVersions A → Bool
  was_there commit k = has_version (key_before commit k)

  -- a key that has a version from before the commit, without the versions of the commit; any other key as it is
  abbrev pub taken_back : ℕ → KeyVersions A → KeyVersions A
  taken_back commit k = if was_there commit k then key_before commit k else k

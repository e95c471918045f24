-- What a commit leaves of keys of which no older version may be read: its own row alone.
-- Source: PostgreSQL manual, Routine Vacuuming, on recovering disk space.
use Rattle.std.specs.Prelude.{ℕ, ◌==◌, ◌&&◌, Bool, if◌then◌else◌, Option, Some, None, is_some, List, [], ◌∷◌, drop}
use Rattle.std.specs.Option.{option_map_or}
use Rattle.schema.specs.declared.changes.Change.{Change}
use Rattle.schema.specs.Plain.{same}
use Rattle.mvrows.specs.Versions.{KeyVersions, VersionedRows}
use Rattle.mvrows.specs.Installing.{first_version}

module _ {A : Type 0} where
  -- a change leaves a row of a key of a table
  abbrev pub is_row_of : ℕ → Change A → KeyVersions A → Bool
  is_row_of t x k = x.table == t && same x.key k.key && is_some x.fields

  -- the first of these changes, where it leaves a row of a key of a table
  abbrev pub row_change : ℕ → List (Change A) → KeyVersions A → Option (Change A)
  row_change t [] k = None
  row_change t (x ∷ xs) k = if is_row_of t x k then Some x else None

  -- a key with the row of the first of these changes alone, where that is one of the key
  abbrev pub replaced_key : ℕ → ℕ → List (Change A) → KeyVersions A → KeyVersions A
  replaced_key t commit xs k = option_map_or (λ x. first_version x.key (record { number = commit; fields = x.fields })) (row_change t xs k) k

  -- the changes that come to the next key
  abbrev pub left_after : ℕ → List (Change A) → KeyVersions A → List (Change A)
  left_after t xs k = if is_some (row_change t xs k) then drop 1 xs else xs

  -- a table's keys with the rows of these changes, each of which comes to its key in turn
  abbrev pub replaced : ℕ → ℕ → List (Change A) → VersionedRows A → VersionedRows A
  replaced t commit xs [] = []
  replaced t commit xs (k ∷ ks) = replaced_key t commit xs k ∷ replaced t commit (left_after t xs k) ks

  -- the changes that came to no key
  abbrev pub left : ℕ → List (Change A) → VersionedRows A → List (Change A)
  left t xs [] = xs
  left t xs (k ∷ ks) = left t (left_after t xs k) ks

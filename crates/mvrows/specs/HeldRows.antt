-- A table's keys with their versions, page by page, and which pages it has for itself.
use Rattle.std.specs.Prelude.{◌≡◌, ℕ, Bool, true, false, if◌then◌else◌, List, map}
use Rattle.std.specs.List.{AllByRecursion, flat_map}
use Rattle.value.specs.declared.key.Key.{Key}
use Rattle.schema.specs.Pages as pages
use Rattle.mvrows.specs.Versions.{KeyVersions, VersionedRows, RowsAreBelow}
use Rattle.mvrows.specs.Pruning.{has_version, pruned_rows}
use Rattle.mvrows.specs.TakenBack.{rows_before}

-- a page; views share what isn't its own
pub record Held (A : Type 0) : Type 0 where
  pub own : Bool
  pub rows : VersionedRows A

module _ {A : Type 0} where
  -- the key of versions
  abbrev pub chain_key : KeyVersions A → Key A
  chain_key k = k.key

  -- the pages of a table, shared or not
  abbrev pub pages_of : List (Held A) → List (VersionedRows A)
  pages_of leaves = map (λ h. h.rows) leaves

  -- the keys of a table with their versions
  abbrev pub rows_in : List (Held A) → VersionedRows A
  rows_in leaves = flat_map (λ h. h.rows) leaves

  -- the keys of each table with their versions
  abbrev pub rows_held : List (List (Held A)) → List (VersionedRows A)
  rows_held tables = map rows_in tables

  -- a page has a key
  abbrev pub has_keys : VersionedRows A → Bool
  has_keys rows = pages.has_items rows

  -- keys rise over all pages, and each page has one
  abbrev pub AreLaidOut : List (Held A) → Type 0
  AreLaidOut leaves = pages.AreLaidOut chain_key (λ h. h.rows) leaves

  -- what is left of a page where the versions of an unfinished commit are taken back: a table puts such versions into its own pages alone
  abbrev pub undone : ℕ → Held A → VersionedRows A
  undone commit h = if h.own then rows_before commit h.rows else h.rows

  -- of all pages
  abbrev pub undone_in : ℕ → List (Held A) → VersionedRows A
  undone_in commit leaves = flat_map (undone commit) leaves

  -- what others share has no such version
  abbrev pub IsUndoable : ℕ → Held A → Type 0
  IsUndoable commit h = h.own ≡ false → RowsAreBelow commit h.rows

  abbrev pub AreUndoable : ℕ → List (Held A) → Type 0
  AreUndoable commit leaves = AllByRecursion (IsUndoable commit) leaves

  -- what is left of a page where a table prunes its own
  abbrev pub own_pruned : ℕ → Held A → VersionedRows A
  own_pruned oldest h = if h.own then pruned_rows oldest h.rows else h.rows

  -- of all pages
  abbrev pub own_pruned_in : ℕ → List (Held A) → VersionedRows A
  own_pruned_in oldest leaves = flat_map (own_pruned oldest) leaves

  -- each key has a version
  abbrev pub AllVersioned : VersionedRows A → Type 0
  AllVersioned rows = AllByRecursion (λ k. has_version k ≡ true) rows

  -- in each table
  abbrev pub AreVersioned : List (VersionedRows A) → Type 0
  AreVersioned tables = AllByRecursion AllVersioned tables

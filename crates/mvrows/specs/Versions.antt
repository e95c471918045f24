-- Tables with their versions: what each commit left of each key, and what a snapshot shows of it.
-- Source: Ports and Grittner, Serializable Snapshot Isolation in PostgreSQL, on snapshot isolation; PostgreSQL manual, Concurrency Control.
use Rattle.std.specs.Prelude.{ℕ, ◌<◌, nat_le, Option, List, [], map, find, slice_get, slice_index_or, option_and_then}
use Rattle.std.specs.List.{AllByRecursion, filter_map}
use Rattle.std.specs.List.Sorted.{IsStrictlySortedBy}
use Rattle.std.specs.Option.{option_map}
use Rattle.value.specs.Order.{value_cmp}
use Rattle.value.specs.declared.value.Value.{Value}
use Rattle.schema.specs.declared.row.Row.{Row}
use Rattle.schema.specs.declared.tables.Tables.{Tables}
use Rattle.schema.specs.Rows.{Rows}
use Rattle.schema.specs.Plain.{same}

-- what a commit left of a key: the other fields of its row, or that it has no row; the number of the opening is 0
pub record Version (A : Type 0) : Type 0 where
  pub number : ℕ
  pub fields : Option (List (Value A))

-- a key and its versions, the newest first
pub record KeyVersions (A : Type 0) : Type 0 where
  pub key : Value A
  pub versions : List (Version A)

-- a table: its keys with their versions, in key order
abbrev pub VersionedRows : Type 0 → Type 0
VersionedRows A = List (KeyVersions A)

module _ {A : Type 0} where
  -- the keys with their versions of a table, counted from 0
  abbrev pub versions_of : List (VersionedRows A) → ℕ → VersionedRows A
  versions_of tables t = slice_index_or tables t []

  -- the keys rise
  abbrev pub IsInOrder : VersionedRows A → Type 0
  IsInOrder rows = IsStrictlySortedBy value_cmp (map (λ k. k.key) rows)

  -- in every table
  abbrev pub AreInOrder : List (VersionedRows A) → Type 0
  AreInOrder tables = AllByRecursion IsInOrder tables

  -- ---- what a snapshot shows

  -- the newest version not above a number
  abbrev pub version_at : ℕ → List (Version A) → Option (Version A)
  version_at snapshot versions = find (λ v. nat_le v.number snapshot) versions

  -- the other fields of the row of a key that a snapshot shows
  abbrev pub shown_fields : ℕ → List (Version A) → Option (List (Value A))
  shown_fields snapshot versions = option_and_then (λ v. v.fields) (version_at snapshot versions)

  -- the row of a key that a snapshot shows
  abbrev pub shown_row : ℕ → KeyVersions A → Option (Row A)
  shown_row snapshot k = option_map (λ fields. (k.key, fields)) (shown_fields snapshot k.versions)

  -- the rows of a table that a snapshot shows
  abbrev pub shown_rows : ℕ → VersionedRows A → Rows A
  shown_rows snapshot rows = filter_map (shown_row snapshot) rows

  -- the tables that a snapshot shows
  abbrev pub shown : ℕ → List (VersionedRows A) → Tables A
  shown snapshot tables = map (shown_rows snapshot) tables

  -- ---- the last commit of a key

  -- the number of the newest version
  abbrev pub newest_version : KeyVersions A → Option ℕ
  newest_version k = option_map (λ v. v.number) (slice_get k.versions 0)

  -- the number of a key's last commit, in a table
  abbrev pub newest_in : VersionedRows A → Value A → Option ℕ
  newest_in rows key = option_and_then newest_version (find (λ k. same key k.key) rows)

  -- the number of the last commit of a key of a table
  abbrev pub newest : List (VersionedRows A) → ℕ → Value A → Option ℕ
  newest tables t key = newest_in (versions_of tables t) key

  -- ---- numbers

  -- each version is of a commit below this one
  abbrev pub AreBelow : ℕ → List (Version A) → Type 0
  AreBelow n versions = AllByRecursion (λ v. v.number < n) versions

  -- all versions of each key of a table are below this number
  abbrev pub RowsAreBelow : ℕ → VersionedRows A → Type 0
  RowsAreBelow n rows = AllByRecursion (λ k. AreBelow n k.versions) rows

  -- all versions of each key of all tables are below this number
  abbrev pub TablesAreBelow : ℕ → List (VersionedRows A) → Type 0
  TablesAreBelow n tables = AllByRecursion (RowsAreBelow n) tables

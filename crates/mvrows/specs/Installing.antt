-- The opening, and what a commit installs.
-- Source: Ports and Grittner, Serializable Snapshot Isolation in PostgreSQL, on snapshot isolation.
use Rattle.std.specs.Prelude.{ℕ, Some, List, [], ◌∷◌, map, slice_set}
use Rattle.std.specs.Ordering.{match_ordering}
use Rattle.value.specs.Order.{value_cmp}
use Rattle.value.specs.declared.value.Value.{Value}
use Rattle.schema.specs.declared.row.Row.{Row}
use Rattle.schema.specs.declared.changes.Change.{Change}
use Rattle.schema.specs.declared.tables.Tables.{Tables}
use Rattle.mvrows.specs.Versions.{Version, KeyVersions, VersionedRows, versions_of}

module _ {A : Type 0} where
  -- a row of the opening
  abbrev pub opened_row : Row A → KeyVersions A
  opened_row row = record { key = row.0; versions = record { number = 0; fields = Some row.1 } ∷ [] }

  -- the opening: one version of each row, numbered 0
  abbrev pub opened : Tables A → List (VersionedRows A)
  opened tables = map (map opened_row) tables

  -- the versions of a key that has this one alone
  abbrev pub first_version : Value A → Version A → KeyVersions A
  first_version key v = record { key = key; versions = v ∷ [] }

  -- a key's versions with a newer one
  abbrev pub newer : Version A → KeyVersions A → KeyVersions A
  newer v k = record k { versions = v ∷ k.versions }

  -- a table's keys with a newer version of one
  abbrev pub put_version : Value A → Version A → VersionedRows A → VersionedRows A
  put_version key v [] = first_version key v ∷ []
  put_version key v (k ∷ ks) = match_ordering (value_cmp key k.key) (first_version key v ∷ k ∷ ks) (newer v k ∷ ks) (k ∷ put_version key v ks)

  -- the tables with a change of a commit installed
  abbrev pub install_change : ℕ → Change A → List (VersionedRows A) → List (VersionedRows A)
  install_change commit x tables = slice_set tables x.table (put_version x.key (record { number = commit; fields = x.fields }) (versions_of tables x.table))

  -- the tables with all changes of a commit installed
  abbrev pub installed : ℕ → List (Change A) → List (VersionedRows A) → List (VersionedRows A)
  installed commit [] tables = tables
  installed commit (x ∷ xs) tables = installed commit xs (install_change commit x tables)

-- Commits one after another, and the last of them that changes a key.
-- Source: Ports and Grittner, Serializable Snapshot Isolation in PostgreSQL, on snapshot isolation and its rule that the first updater wins.
use Rattle.std.specs.Prelude.{ℕ, ◌+◌, ◌==◌, ◌&&◌, Bool, if◌then◌else◌, Option, Some, None, List, [], ◌∷◌}
use Rattle.std.specs.List.{list_any}
use Rattle.std.specs.Option.{option_or}
use Rattle.value.specs.declared.value.Value.{Value}
use Rattle.schema.specs.declared.changes.Change.{Change}
use Rattle.schema.specs.Plain.{same}
use Rattle.mvrows.specs.Versions.{VersionedRows}
use Rattle.mvrows.specs.Installing.{installed}

module _ {A : Type 0} where
  -- one of the changes is of this key of this table
  abbrev pub changes_key : List (Change A) → ℕ → Value A → Bool
  changes_key xs t key = list_any (λ x. x.table == t && same key x.key) xs

  -- the tables with the changes of commits installed, the first of them numbered n, each other one more than the one before
  abbrev pub installed_from : ℕ → List (List (Change A)) → List (VersionedRows A) → List (VersionedRows A)
  installed_from n [] tables = tables
  installed_from n (xs ∷ commits) tables = installed_from (n + 1) commits (installed n xs tables)

  -- the number of the last of such commits that changes a key
  abbrev pub last_change : ℕ → List (List (Change A)) → ℕ → Value A → Option ℕ
  last_change n [] t key = None
  last_change n (xs ∷ commits) t key = option_or (last_change (n + 1) commits t key) (if changes_key xs t key then Some n else None)

-- Keys that a commit has just changed: they stand in pages that their tables have for themselves.
use Rattle.std.specs.Prelude.{◌≡◌, ℕ, nat_le, Bool, true, false, None, IfSome, List}
use Rattle.std.specs.List.{AllByRecursion}
use Rattle.std.specs.Option.{option_map_or}
use Rattle.value.specs.declared.value.Value.{Value}
use Rattle.schema.specs.declared.changes.Change.{Change}
use Rattle.mvrows.specs.Versions.{KeyVersions, VersionedRows, versions_of, newest_version}
use Rattle.mvrows.specs.Settling.{found}
use Rattle.mvrows.specs.HeldRows.{Held, rows_in, rows_held, AreUndoable}

module _ {A : Type 0} where
  -- the newest version of a key is of this commit, or of a later one
  abbrev pub is_from : ℕ → KeyVersions A → Bool
  is_from commit k = option_map_or (λ n. nat_le commit n) (newest_version k) false

  -- the newest version of a key is of this commit or a later one, where the key is there
  abbrev pub IsFresh : ℕ → Value A → VersionedRows A → Type 0
  IsFresh commit key rows = IfSome (found key rows) (λ k. is_from commit k ≡ true)

  -- a page that others share doesn't have the key
  abbrev pub IsOwnKey : Value A → Held A → Type 0
  IsOwnKey key h = h.own ≡ false → found key h.rows ≡ None

  -- Pages that others share have versions below some commit alone, and the newest version of the key isn't one of these.
  pub record IsFreshIn (key : Value A) (leaves : List (Held A)) : Type 0 where
    pub commit : ℕ
    pub undoable : AreUndoable commit leaves
    pub fresh : IsFresh commit key (rows_in leaves)

  -- Pages that others share have versions below some commit alone, in all tables, and the newest version of the key of each change isn't one of these.
  pub record AreFresh (xs : List (Change A)) (tables : List (List (Held A))) : Type 0 where
    pub commit : ℕ
    pub undoable : AllByRecursion (AreUndoable commit) tables
    pub fresh : AllByRecursion (λ x. IsFresh commit x.key (versions_of (rows_held tables) x.table)) xs

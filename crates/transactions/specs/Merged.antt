-- Changes in the order of writing, and by key: the same for the tables that they are put into.
-- Source: PostgreSQL manual, Transaction Isolation: a command sees its own transaction's earlier changes.
use Rattle.std.specs.Prelude.{◌≡◌, ℕ, ◌==◌, ◌&&◌, Bool, List}
use Rattle.std.specs.List.{AllByRecursion, list_any}
use Rattle.std.specs.List.Sorted.{IsStrictlySortedBy}
use Rattle.schema.specs.declared.changes.Change.{Change}
use Rattle.schema.specs.declared.tables.Tables.{Tables}
use Rattle.value.specs.declared.value.Value.{Value}
use Rattle.schema.specs.Changing.{change_cmp}
use Rattle.schema.specs.Plain.{put_all, same as is_same}
use Rattle.schema.specs.Rows.{IsInKeyOrder}

module _ {A : Type 0} where
  -- the rows of each table are in key order
  abbrev pub AreInKeyOrder : Tables A → Type 0
  AreInKeyOrder X = AllByRecursion IsInKeyOrder X

  -- one of the changes is of this key of a table
  abbrev pub is_changed : ℕ → Value A → List (Change A) → Bool
  is_changed t k xs = list_any (λ x. t == x.table && is_same k x.key) xs

  -- The first changes are by table, then by key, one at most for each; and put into tables they come to the same as the others, put in one after another. They are of the same keys.
  pub record AreMerged (ys xs : List (Change A)) : Type 0 where
    pub by_key : IsStrictlySortedBy change_cmp ys
    pub keys : (t : ℕ) (k : Value A) → is_changed t k ys ≡ is_changed t k xs
    pub same : (X : Tables A) → AreInKeyOrder X → put_all ys X ≡ put_all xs X

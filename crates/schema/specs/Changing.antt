-- Changes by table, then by key: putting one in, and looking one up.
-- Source: this project's choice.
use Rattle.std.specs.Prelude.{◌≡◌, ◌<◌, ℕ, suc, ◌==◌, ◌&&◌, Option, List, [], ◌∷◌, ◌++◌, length, map, find, filter, slice_set}
use Rattle.std.specs.List.{AllByRecursion}
use Rattle.std.specs.List.Sorted.{IsStrictlySortedBy}
use Rattle.std.specs.Borrow.{Bor}
use Rattle.std.specs.Option.{option_map}
use Rattle.std.specs.Ordering.{nat_cmp, ordering_then, match_ordering}
use Rattle.std.specs.declared.cmp.Ordering.{Ordering}
use Rattle.value.specs.Order.{value_cmp}
use Rattle.value.specs.declared.key.Key.{Key}
use Rattle.value.specs.declared.value.Value.{Value}
use Rattle.schema.specs.declared.row.Row.{Row}
use Rattle.schema.specs.declared.reader.Bound.{Bound}
use Rattle.schema.specs.declared.changes.Change.{Change}
use Rattle.schema.specs.KeyedChange.{KeyedChange}
use Rattle.schema.specs.Plain.{same}
use Rattle.schema.specs.Rows.{is_within}

module _ {A : Type 0} where
  -- by table, then by key
  abbrev pub change_cmp : Change A → Change A → Ordering
  change_cmp x y = ordering_then (nat_cmp x.table y.table) (value_cmp x.key y.key)

  -- the changes with this one put in, over any of its key
  abbrev pub put_change : List (Change A) → Change A → List (Change A)
  put_change [] x = x ∷ []
  put_change (y ∷ ys) x = match_ordering (change_cmp x y) (x ∷ y ∷ ys) (x ∷ ys) (y ∷ put_change ys x)

  -- the new row that a change says of its key, or that it has none
  abbrev pub new_row : Change A → Option (Row A)
  new_row x = option_map (λ fields. (x.key, fields)) x.fields

  -- what the changes say of a key
  abbrev pub change_of : List (Change A) → ℕ → Value A → Option (Option (Row A))
  change_of xs t k = option_map new_row (find (λ x. x.table == t && same k x.key) xs)

  -- the first change of a table within a bound: its key, and what it says of it
  abbrev pub next_change : List (Change A) → ℕ → Bound (Bor (Key A)) → Option (Value A × Option (Row A))
  next_change xs t bound = option_map (λ x. (x.key, new_row x)) (find (λ x. x.table == t && is_within bound x.key) xs)

  -- the changes of a table
  abbrev pub changes_at : List (Change A) → ℕ → List (Change A)
  changes_at xs t = filter (λ x. x.table == t) xs

  -- the keys of a table's changes rise, so that each key has one at most
  abbrev pub IsByKey : List (Change A) → ℕ → Type 0
  IsByKey xs t = IsStrictlySortedBy value_cmp (map (λ x. x.key) (changes_at xs t))

  -- changes of one table, by rising keys
  abbrev pub AreOfTable : ℕ → List (Change A) → Type 0
  AreOfTable t xs = AllByRecursion (λ x. x.table ≡ t) xs × IsStrictlySortedBy value_cmp (map (λ x. x.key) xs)

  -- Among changes of one table, a change of this key takes this place when it is put in.
  abbrev pub TakesPlace : ℕ → Value A → List (Change A) → ℕ → Type 0
  TakesPlace t k xs p = (p < length xs) × ((x : Change A) → x.table ≡ t → x.key ≡ k → (put_change xs x ≡ slice_set xs p x) × ((own : ℕ) → AreOfTable own xs → AreOfTable own (slice_set xs p x)))

  -- ---- the changes of one table

  abbrev pub put_keyed : List (KeyedChange A) → Value A → Option (List (Value A)) → List (KeyedChange A)
  put_keyed [] k fields = (k, fields) ∷ []
  put_keyed (c ∷ cs) k fields = match_ordering (value_cmp k c.0) ((k, fields) ∷ c ∷ cs) ((k, fields) ∷ cs) (c ∷ put_keyed cs k fields)

  abbrev pub own_row : KeyedChange A → Option (Row A)
  own_row c = option_map (λ fields. (c.0, fields)) c.1

  abbrev pub keyed_change : List (KeyedChange A) → Value A → Option (Option (Row A))
  keyed_change cs k = option_map own_row (find (λ c. same k c.0) cs)

  abbrev pub next_keyed : List (KeyedChange A) → Bound (Bor (Key A)) → Option (Value A × Option (Row A))
  next_keyed cs bound = option_map (λ c. (c.0, own_row c)) (find (λ c. is_within bound c.0) cs)

  -- ---- all tables' changes, one table after another

  abbrev pub changes_in : ℕ → List (KeyedChange A) → List (Change A)
  changes_in t cs = map (λ c. record { table = t; key = c.0; fields = c.1 }) cs

  -- the changes of tables counted from t on
  abbrev pub changes_from : ℕ → List (List (KeyedChange A)) → List (Change A)
  changes_from t [] = []
  changes_from t (cs ∷ more) = changes_in t cs ++ changes_from (suc t) more

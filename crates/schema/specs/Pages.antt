-- What has keys, in key order, on pages one after another; and where a key belongs among them.
use Rattle.std.specs.Prelude.{◌≡◌, ℕ, ◌+◌, Bool, true, false, not, List, [], ◌∷◌, map, take, drop}
use Rattle.std.specs.Borrow.{Bor}
use Rattle.std.specs.List.{AllByRecursion, flat_map, list_all}
use Rattle.std.specs.List.Sorted.{IsStrictlySortedBy}
use Rattle.std.specs.Ordering.{is_le}
use Rattle.std.specs.declared.cmp.Ordering.TheVariants.{Less}
use Rattle.value.specs.Order.{value_cmp}
use Rattle.value.specs.declared.key.Key.{Key}
use Rattle.value.specs.declared.value.Value.{Value}
use Rattle.schema.specs.declared.reader.Bound.{Bound}
use Rattle.schema.specs.Rows.{is_within}

-- a page has an item
abbrev pub has_items : {T : Type 0} → List T → Bool
has_items [] = false
has_items (item ∷ items) = true

module _ {A T : Type 0} (key : T → Value A) where
  -- the keys rise
  abbrev pub IsInOrder : List T → Type 0
  IsInOrder items = IsStrictlySortedBy value_cmp (map key items)

  -- a key is below each of some items
  abbrev pub IsLeast : Value A → List T → Type 0
  IsLeast k items = AllByRecursion (λ l. value_cmp k l ≡ Less) (map key items)

  -- and above each of some
  abbrev pub IsBehind : Value A → List T → Type 0
  IsBehind k items = AllByRecursion (λ x. is_le (value_cmp k (key x)) ≡ false) items

  -- no item of a page is within a bound
  abbrev pub is_before : Bound (Bor (Key A)) → List T → Bool
  is_before bound items = list_all (λ x. not (is_within bound (key x))) items

module _ {A T H : Type 0} (key : T → Value A) (items : H → List T) where
  -- keys rise over all pages, and each page has an item
  abbrev pub AreLaidOut : List H → Type 0
  AreLaidOut pages = IsInOrder key (flat_map items pages) × AllByRecursion (λ page. has_items (items page) ≡ true) pages

  -- a key belongs to the page at a place: it is above all items of the pages before it, and below all of those after it
  pub record IsPlaced (k : Value A) (pages : List H) (place : ℕ) : Type 0 where
    pub before : IsBehind key k (flat_map items (take place pages))
    pub after : IsLeast key k (flat_map items (drop (place + 1) pages))

-- Readings that change no cover, whatever is read after them.
use Rattle.std.specs.Prelude.{◌≡◌, ℕ, ◌+◌, ◌<◌, ◌≤◌, ◌==◌, Bool, false, ◌&&◌, ◌||◌, List, ◌++◌, length, take, drop}
use Rattle.std.specs.List.{list_any}
use Rattle.std.specs.Ordering.{is_le, is_ge}
use Rattle.value.specs.declared.value.Value.{Value}
use Rattle.value.specs.Order.{value_cmp}
use Rattle.statement.specs.declared.reading.Extent.{Extent}
use Rattle.statement.specs.declared.reading.Extent.TheVariants.{One}
use Rattle.statement.specs.declared.reading.Reading.{Reading}
use Rattle.statement.specs.Cover.{covers_whole, has_many_keys, keys_of, same_extent}
use Rattle.siread.specs.declared.extent.Form.TheVariants as form
use Rattle.siread.specs.declared.extent.Sought.TheVariants as sought
use Rattle.siread.specs.Bounds.{count_in, HasFewKeys, HasFewOthers}
use Rattle.siread.specs.Extents.{is_read, is_sought, read_in, IsEachOnce}
use Rattle.siread.specs.Reads.{CoverAlike}

module _ {A : Type 0} where
  -- a key between two of several keys that are enough to count as a range
  abbrev pub is_between : List (Value A) → Extent A → Bool
  is_between keys (One v) = has_many_keys keys && list_any (λ w. is_le (value_cmp w v)) keys && list_any (λ w. is_ge (value_cmp w v)) keys
  is_between keys _ = false

  -- The table is covered whole already, or the extent was read already, or it is a key between two of many.
  abbrev pub is_told : List (Extent A) → Extent A → Bool
  is_told es e = covers_whole es || list_any (same_extent e) es || is_between (keys_of es) e

  abbrev pub adds_nothing : List (Reading A) → Reading A → Bool
  adds_nothing rs r = is_told (read_in r.table rs) r.extent

  -- The first `settled` readings are kept as they were; after them no table has many keys, and still no two are the same.
  pub record Grows (settled : ℕ) (old new : List (Reading A)) : Type 0 where
    pub within : settled ≤ length new
    pub before : take settled new ≡ take settled old
    pub once : IsEachOnce new
    pub last : HasFewKeys (drop settled new)
    pub others : HasFewOthers old → HasFewOthers new

  -- ---- one key less

  -- a key with another below it and another above it, in table t
  abbrev pub is_inside : List (Reading A) → ℕ → Extent A → Bool
  is_inside rs t (One v) = list_any (is_read t (is_sought sought.KeyBelow v)) rs && list_any (is_read t (is_sought sought.KeyAbove v)) rs
  is_inside rs t _ = false

  -- the reading is of such a key
  abbrev pub is_inner : List (Reading A) → ℕ → Reading A → Bool
  is_inner rs t r = r.table == t && is_inside rs t r.extent

  -- The reading at a place is a key of table t, without which the others cover alike.
  pub record IsSpare (rs : List (Reading A)) (t place : ℕ) : Type 0 where
    pub within : place < length rs
    pub alike : CoverAlike (take place rs ++ drop (place + 1) rs) rs
    pub fewer : count_in t form.Key (take place rs ++ drop (place + 1) rs) + 1 ≡ count_in t form.Key rs

  -- The first n cover alike with the first m of the old, and no table has many keys among them; those after them are kept, and no two are the same.
  pub record Settles (old : List (Reading A)) (m : ℕ) (new : List (Reading A)) (n : ℕ) : Type 0 where
    pub within : n ≤ length new
    pub once : IsEachOnce new
    pub alike : CoverAlike (take n new) (take m old)
    pub before : HasFewKeys (take n new)
    pub rest : drop n new ≡ drop m old
    pub others : HasFewOthers old → HasFewOthers new

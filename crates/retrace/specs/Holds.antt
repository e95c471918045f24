-- By what readings hold an item: one of them, or many that count as more.
use Rattle.std.specs.Prelude.{ℕ, ◌==◌, Bool, true, false, not, ◌&&◌, if◌then◌else◌, Option, Some, None, List, length, position}
use Rattle.std.specs.List.{fold, list_any}
use Rattle.std.specs.Ordering.{is_lt, is_gt, is_le, is_ge}
use Rattle.value.specs.declared.value.Value.{Value}
use Rattle.value.specs.Order.{value_cmp}
use Rattle.statement.specs.declared.reading.Extent.{Extent}
use Rattle.statement.specs.declared.reading.Extent.TheVariants.{Whole, One}
use Rattle.statement.specs.declared.reading.Reading.{Reading}
use Rattle.statement.specs.Cover.{distinct, extents_in, has_key, has_many_keys, has_reference, keys_of, same_extent}
use Rattle.retrace.specs.declared.witness.item.Item.{Item}
use Rattle.retrace.specs.declared.witness.hold.Hold.{Hold}
use Rattle.retrace.specs.declared.witness.hold.Hold.TheVariants as hold

module _ {A : Type 0} where
  -- an extent holds a key, or a reference, of its table
  abbrev pub extent_holds : Option ℕ → Value A → Extent A → Bool
  extent_holds j k Whole = true
  extent_holds None k e = has_key k e
  extent_holds (Some j) k e = has_reference j k e

  -- one reading holds the item
  abbrev pub reading_holds : Item A → Reading A → Bool
  reading_holds i r = r.table == i.table && extent_holds i.column i.key r.extent

  -- the reading is of a single key of the table, not above this one, or not below it
  abbrev pub is_at_most : Value A → Extent A → Bool
  is_at_most k (One v) = is_le (value_cmp v k)
  is_at_most k _ = false

  abbrev pub is_at_least : Value A → Extent A → Bool
  is_at_least k (One v) = is_ge (value_cmp v k)
  is_at_least k _ = false

  abbrev pub reads_at_most : Item A → Reading A → Bool
  reads_at_most i r = r.table == i.table && is_at_most i.key r.extent

  abbrev pub reads_at_least : Item A → Reading A → Bool
  reads_at_least i r = r.table == i.table && is_at_least i.key r.extent

  -- the single keys of a table, each once
  abbrev pub single_keys : ℕ → List (Reading A) → List (Value A)
  single_keys t rs = keys_of (distinct (extents_in t rs))

  -- the reading is of this single key of the table
  abbrev pub reads_key : Value A → ℕ → Reading A → Bool
  reads_key k t r = r.table == t && same_extent (One k) r.extent

  -- the reading is of a single key of the table that isn't read again later
  abbrev pub is_last_single : List (Reading A) → ℕ → Extent A → Bool
  is_last_single later t (One k) = not (list_any (reads_key k t) later)
  is_last_single later t _ = false

  abbrev pub is_last_of_key : Reading A → ℕ → List (Reading A) → Bool
  is_last_of_key r t later = r.table == t && is_last_single later t r.extent

  -- the item is a key between two of enough single keys to count as a range
  abbrev pub is_between : Option ℕ → List (Reading A) → Item A → Bool
  is_between None rs i = has_many_keys (single_keys i.table rs) && list_any (reads_at_most i) rs && list_any (reads_at_least i) rs
  is_between (Some j) rs i = false

  abbrev pub hold_from : List (Reading A) → Item A → Option ℕ → Hold
  hold_from rs i (Some n) = hold.Reading n
  hold_from rs i None = if is_between i.column rs i then hold.Keys (length (single_keys i.table rs)) else hold.Table

  -- The first reading that holds the item; else many single keys with it between them; else enough ranges or references that the table counts as read whole.
  abbrev pub hold_of : List (Reading A) → Item A → Hold
  hold_of rs i = hold_from rs i (position (reading_holds i) rs)

  -- ---- the ends of such a range

  abbrev pub lower_of : Extent A → Option (Value A) → Option (Value A)
  lower_of (One v) None = Some v
  lower_of (One v) (Some w) = if is_lt (value_cmp v w) then Some v else Some w
  lower_of _ o = o

  abbrev pub upper_of : Extent A → Option (Value A) → Option (Value A)
  upper_of (One v) None = Some v
  upper_of (One v) (Some w) = if is_gt (value_cmp v w) then Some v else Some w
  upper_of _ o = o

  -- the lower, or the upper, of the best so far and a reading's key, where it is a single key of the table
  abbrev pub lower_key : ℕ → Option (Value A) → Reading A → Option (Value A)
  lower_key t least r = if r.table == t then lower_of r.extent least else least

  abbrev pub upper_key : ℕ → Option (Value A) → Reading A → Option (Value A)
  upper_key t greatest r = if r.table == t then upper_of r.extent greatest else greatest

  -- the least and the greatest single key of a table that was read
  abbrev pub least_key : ℕ → List (Reading A) → Option (Value A)
  least_key t rs = fold (lower_key t) None rs

  abbrev pub greatest_key : ℕ → List (Reading A) → Option (Value A)
  greatest_key t rs = fold (upper_key t) None rs

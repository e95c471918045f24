-- What was written: keys, and the references of written rows.
use Rattle.std.specs.Prelude.{ℕ, nat_lt, ◌==◌, Bool, true, ◌&&◌, ◌||◌, if◌then◌else◌, Option, Some, None, List}
use Rattle.std.specs.List.{fold, list_any}
use Rattle.std.specs.Ordering.{is_lt, is_eq}
use Rattle.value.specs.Order.{value_cmp}
use Rattle.schema.specs.declared.changes.Change.{Change}
use Rattle.schema.specs.Plain.{same}
use Rattle.statement.specs.declared.reading.Reading.{Reading}
use Rattle.statement.specs.declared.outcome.Mark.{Mark}
use Rattle.statement.specs.Cover.{covers, covers_value}
use Rattle.retrace.specs.declared.witness.item.Item.{Item}

module _ {A : Type 0} where
  -- readings cover a key, or a reference, that was written
  abbrev pub cover_change : List (Reading A) → Change A → Bool
  cover_change rs x = covers rs x.table x.key

  abbrev pub cover_mark : List (Reading A) → Mark A → Bool
  cover_mark rs m = covers_value rs m.table m.column m.key

  -- readings cover something of what was written
  abbrev pub cover_written : List (Reading A) → List (Change A) → List (Mark A) → Bool
  cover_written rs xs ms = list_any (cover_change rs) xs || list_any (cover_mark rs) ms

  -- ---- the least

  -- one key comes before another: in a table before it, or before it there
  abbrev pub change_before : Change A → Change A → Bool
  change_before x y = nat_lt x.table y.table || x.table == y.table && is_lt (value_cmp x.key y.key)

  -- one reference comes before another: by table, key and column
  abbrev pub mark_before : Mark A → Mark A → Bool
  mark_before m n =
      nat_lt m.table n.table || m.table == n.table && (is_lt (value_cmp m.key n.key) || is_eq (value_cmp m.key n.key) && nat_lt m.column n.column)

  -- a change's key comes before the least so far, if there is one
  abbrev pub change_below : Change A → Option (Change A) → Bool
  change_below x None = true
  change_below x (Some y) = change_before x y

  abbrev pub mark_below : Mark A → Option (Mark A) → Bool
  mark_below m None = true
  mark_below m (Some n) = mark_before m n

  abbrev pub lesser_change : List (Reading A) → Option (Change A) → Change A → Option (Change A)
  lesser_change rs least x = if cover_change rs x && change_below x least then Some x else least

  abbrev pub lesser_mark : List (Reading A) → Option (Mark A) → Mark A → Option (Mark A)
  lesser_mark rs least m = if cover_mark rs m && mark_below m least then Some m else least

  -- of the keys that are covered the least
  abbrev pub least_change : List (Reading A) → List (Change A) → Option (Change A)
  least_change rs xs = fold (lesser_change rs) None xs

  -- of the references that are covered the least
  abbrev pub least_mark : List (Reading A) → List (Mark A) → Option (Mark A)
  least_mark rs ms = fold (lesser_mark rs) None ms

  -- ---- the item that is named

  abbrev pub key_item : Change A → Item A
  key_item x = record { table = x.table; column = None; key = x.key }

  abbrev pub mark_item : Mark A → Item A
  mark_item m = record { table = m.table; column = Some m.column; key = m.key }

  -- the item of the change or of the mark: that of the lesser table, and of one table the change's key
  abbrev pub first_item : Option (Change A) → Option (Mark A) → Option (Item A)
  first_item None None = None
  first_item (Some x) None = Some (key_item x)
  first_item None (Some m) = Some (mark_item m)
  first_item (Some x) (Some m) = if nat_lt m.table x.table then Some (mark_item m) else Some (key_item x)

  -- The least item that was written and is covered: of the least table, keys before references, then the least key.
  abbrev pub least_item : List (Reading A) → List (Change A) → List (Mark A) → Option (Item A)
  least_item rs xs ms = first_item (least_change rs xs) (least_mark rs ms)

  -- ---- what wrote it

  abbrev pub is_change : Item A → Change A → Bool
  is_change i x = x.table == i.table && same x.key i.key

  abbrev pub is_mark : Item A → ℕ → Mark A → Bool
  is_mark i j m = m.table == i.table && m.column == j && same m.key i.key

  -- the item is among what was written
  abbrev pub wrote_in : Option ℕ → Item A → List (Change A) → List (Mark A) → Bool
  wrote_in None i xs ms = list_any (is_change i) xs
  wrote_in (Some j) i xs ms = list_any (is_mark i j) ms

  abbrev pub wrote : Item A → List (Change A) → List (Mark A) → Bool
  wrote i xs ms = wrote_in i.column i xs ms

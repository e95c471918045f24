-- A table cut at rising keys: the rows of its pieces, one after another, are its rows.
use Rattle.std.proofs.Common.{◌≡◌, ℕ, suc, ◌+◌, ◌-◌, ◌<◌, ◌==◌, Bool, true, false, cond, List, [], ◌∷◌, ◌++◌, length, map, filter, Option, Some, None, refl, sym, ap, subst, ◌∙◌, append_assoc, arith}
use Rattle.std.specs.List.{flat_map, AllByRecursion, slice_get}
use Rattle.std.specs.List.Sorted.{IsStrictlySortedBy}
use Rattle.std.specs.Ordering.{is_le, is_lt}
use Rattle.std.specs.declared.cmp.Ordering.{Ordering}
use Rattle.std.specs.declared.cmp.Ordering.TheVariants.{Less, Equal, Greater}
use Rattle.std.proofs.lemmas.List.{append-nil}
use Rattle.std.proofs.lemmas.Bool.Decides.{nat_tests}
use Rattle.std.proofs.lemmas.List.Kept.{IsStrictlySortedBy-filter}
use Rattle.std.proofs.lemmas.List.Concat.{flat_map-append}
use Rattle.value.specs.Order.{value_cmp, value_cmp-total, value_cmp-exact}
use Rattle.value.specs.declared.key.Key.{Key}
use Rattle.schema.specs.Definition.{TableSchema, Catalog}
use Rattle.schema.specs.Plain.{rows_of}
use Rattle.schema.specs.Rows.{IsInKeyOrder}
use Rattle.schema.specs.declared.row.Row.{Row}
use Rattle.copytext.specs.Writing.{row_text}
use Rattle.dumpplan.specs.declared.piece.Piece.TheVariants.{Rows}
use Rattle.dumpplan.specs.declared.piece.RowRange.{RowRange}
use Rattle.dumpplan.specs.declared.piece.RowsEnd.{RowsEnd}
use Rattle.dumpplan.specs.declared.piece.RowsEnd.TheVariants.{Before, Last}
use Rattle.dumpplan.specs.Pieces.{is_from, is_before, rows_from, rows_before, rows_text, start_text, stop_text, range_text, range_of, piece_text, cuts, ranges}

-- a piece's text, and those that follow it
nested : (a b e s : List ℕ) → a ++ b ++ [] ++ ([] ++ (e ++ s)) ≡ a ++ ((b ++ e) ++ s)
nested a b e s = ap (λ (t : List ℕ). t ++ (e ++ s)) (append-nil (a ++ b)) ∙ append_assoc a b (e ++ s) ∙ ap (λ (t : List ℕ). a ++ t) (sym (append_assoc b e s))

module _ {A : Type 0} where
  -- ---- order

  le_less : (a b c : Key A) → is_le (value_cmp a b) ≡ true → value_cmp b c ≡ Less → is_le (value_cmp a c) ≡ true
  le_less a b c le later = by_order (value_cmp a b) refl le
    where
      by_order : (o : Ordering) → value_cmp a b ≡ o → is_le o ≡ true → is_le (value_cmp a c) ≡ true
      by_order Less is h = rw (value_cmp-total.trans a b c is later) refl
      by_order Equal is h = rw (value_cmp-total.congr a b c is, later) refl
      by_order Greater is h = cc

  le_le : (a b c : Key A) → is_le (value_cmp a b) ≡ true → is_le (value_cmp b c) ≡ true → is_le (value_cmp a c) ≡ true
  le_le a b c le more = by_order (value_cmp b c) refl more
    where
      by_order : (o : Ordering) → value_cmp b c ≡ o → is_le o ≡ true → is_le (value_cmp a c) ≡ true
      by_order Less is h = le_less a b c le is
      by_order Equal is h = subst (λ (x : Key A). is_le (value_cmp a x) ≡ true) (value_cmp-exact b c is) le
      by_order Greater is h = cc

  not_below : (a b : Key A) → is_lt (value_cmp a b) ≡ false → is_le (value_cmp b a) ≡ true
  not_below a b h = by_order (value_cmp a b) refl h
    where
      by_order : (o : Ordering) → value_cmp a b ≡ o → is_lt o ≡ false → is_le (value_cmp b a) ≡ true
      by_order Less is h = cc
      by_order Equal is h = rw (value_cmp-total.antisymm b a, is) refl
      by_order Greater is h = rw (value_cmp-total.antisymm b a, is) refl

  is_above : (a b : Key A) → is_lt (value_cmp a b) ≡ true → is_le (value_cmp b a) ≡ false
  is_above a b h = by_order (value_cmp a b) refl h
    where
      by_order : (o : Ordering) → value_cmp a b ≡ o → is_lt o ≡ true → is_le (value_cmp b a) ≡ false
      by_order Less is h = rw (value_cmp-total.antisymm b a, is) refl
      by_order Equal is h = cc
      by_order Greater is h = cc

  -- a key that comes after one that is not below the end isn't below it either
  still_not_below : (k l end : Key A) → value_cmp k l ≡ Less → is_lt (value_cmp k end) ≡ false → is_lt (value_cmp l end) ≡ false
  still_not_below k l end later h = by_order (value_cmp l end) refl
    where
      by_order : (o : Ordering) → value_cmp l end ≡ o → is_lt (value_cmp l end) ≡ false
      by_order Less is = let below : value_cmp k end ≡ Less = value_cmp-total.trans k l end later is in cc
      by_order Equal is = rw is refl
      by_order Greater is = rw is refl

  later_from : (from : Option (Key A)) (k l : Key A) → value_cmp k l ≡ Less → is_from from k ≡ true → is_from from l ≡ true
  later_from None k l later h = refl
  later_from (Some first) k l later h = le_less first k l h later

  from_end : (from : Option (Key A)) (end k : Key A) → is_from from end ≡ true → is_le (value_cmp end k) ≡ true → is_from from k ≡ true
  from_end None end k h le = refl
  from_end (Some first) end k h le = le_le first end k h le

  -- ---- the rows of two pieces that meet at a key

  all_from : (from : Option (Key A)) (k : Key A) (rows : List (Row A)) → AllByRecursion (λ l. value_cmp k l ≡ Less) (map (λ row. row.0) rows) → is_from from k ≡ true → rows_from from rows ≡ rows
  all_from from k [] later h = refl
  all_from from k (row ∷ rows) later h = rw (later_from from k row.0 later.0 h) (ap (λ rest. row ∷ rest) (all_from from k rows later.1 h))

  none_before : (end k : Key A) (rows : List (Row A)) → AllByRecursion (λ l. value_cmp k l ≡ Less) (map (λ row. row.0) rows) → is_lt (value_cmp k end) ≡ false → rows_before (Before end) rows ≡ []
  none_before end k [] later h = refl
  none_before end k (row ∷ rows) later h = rw (still_not_below k row.0 end later.0 h) (none_before end k rows later.1 h)

  pub rows_before-last : (count : ℕ) (rows : List (Row A)) → rows_before (Last count) rows ≡ rows
  rows_before-last count [] = refl
  rows_before-last count (row ∷ rows) = ap (λ rest. row ∷ rest) (rows_before-last count rows)

  pub rows_from-none : (rows : List (Row A)) → rows_from None rows ≡ rows
  rows_from-none [] = refl
  rows_from-none (row ∷ rows) = ap (λ rest. row ∷ rest) (rows_from-none rows)

  -- one row more
  meet_at : (row : Row A) (F B G : List (Row A)) (is_reached is_below is_next : Bool) → F ≡ B ++ G → is_next ≡ false → is_below ≡ true
      → cond is_reached (row ∷ F) F ≡ cond is_reached (cond is_below (row ∷ B) B) B ++ cond is_next (row ∷ G) G
  meet_at row F B G true true false same next below = ap (λ rest. row ∷ rest) same
  meet_at row F B G false true false same next below = same
  meet_at row F B G is_reached false is_next same next below = absurd cc
  meet_at row F B G is_reached true true same next below = absurd cc

  before-cond : (end : RowsEnd A) (row : Row A) (b : Bool) (F : List (Row A)) → rows_before end (cond b (row ∷ F) F) ≡ cond b (cond (is_before end row.0) (row ∷ rows_before end F) (rows_before end F)) (rows_before end F)
  before-cond end row true F = refl
  before-cond end row false F = refl

  -- the rows from a key on are those before a later key, and those from it on
  pub rows_from-split : (from : Option (Key A)) (end : Key A) (rows : List (Row A)) → IsInKeyOrder rows → is_from from end ≡ true → rows_from from rows ≡ rows_before (Before end) (rows_from from rows) ++ rows_from (Some end) rows
  unfolding IsStrictlySortedBy
  rows_from-split from end [] sorted h = refl
  rows_from-split from end (row ∷ rows) sorted h = by_test (is_lt (value_cmp row.0 end)) refl sorted.0 (rows_from-split from end rows sorted.1 h)
    where
      by_test : (b : Bool) → is_lt (value_cmp row.0 end) ≡ b → AllByRecursion (λ l. value_cmp row.0 l ≡ Less) (map (λ row. row.0) rows) → rows_from from rows ≡ rows_before (Before end) (rows_from from rows) ++ rows_from (Some end) rows
          → rows_from from (row ∷ rows) ≡ rows_before (Before end) (rows_from from (row ∷ rows)) ++ rows_from (Some end) (row ∷ rows)
      by_test true is later rest =
          meet_at row (rows_from from rows) (rows_before (Before end) (rows_from from rows)) (rows_from (Some end) rows) (is_from from row.0) (is_lt (value_cmp row.0 end)) (is_le (value_cmp end row.0)) rest (is_above row.0 end is) is
          ∙ ap (λ (B : List (Row A)). B ++ rows_from (Some end) (row ∷ rows)) (sym (before-cond (Before end) row (is_from from row.0) (rows_from from rows)))
      by_test false is later rest =
          let next : is_le (value_cmp end row.0) ≡ true = not_below row.0 end is in
          let here : is_from from row.0 ≡ true = from_end from end row.0 h next in
          let all : rows_from from rows ≡ rows = all_from from row.0 rows later here in
          let none : rows_before (Before end) rows ≡ [] = none_before end row.0 rows later is in
          let after : rows_from (Some end) rows ≡ rows = all_from (Some end) row.0 rows later next in
          rw (here, next, all, after, is, none) refl

  -- ---- keys that rise

  abbrev pub Rises : Option (Key A) → List (Key A) → Type 0
  Rises from [] = Unit {0}
  Rises from (key ∷ keys) = (is_from from key ≡ true) × Rises (Some key) keys

  from_later : (k : Key A) (keys : List (Key A)) → AllByRecursion (λ l. value_cmp k l ≡ Less) keys → AllByRecursion (λ l. is_from (Some k) l ≡ true) keys
  from_later k [] later = tt
  from_later k (l ∷ keys) later = ((let less = later.0 in rw less refl), from_later k keys later.1)

  pub Rises-cuts : (most room : ℕ) (from : Option (Key A)) (rows : List (Row A)) → IsInKeyOrder rows → AllByRecursion (λ l. is_from from l ≡ true) (map (λ row. row.0) rows) → Rises from (cuts most room rows)
  unfolding IsStrictlySortedBy
  Rises-cuts most room from [] sorted all = tt
  Rises-cuts most room from (row ∷ rows) sorted all = by_test (room == 0) (Rises-cuts most (most - 1) (Some row.0) rows sorted.1 (from_later row.0 (map (λ row. row.0) rows) sorted.0)) (Rises-cuts most (room - 1) from rows sorted.1 all.1)
    where
      by_test : (b : Bool) → Rises (Some row.0) (cuts most (most - 1) rows) → Rises from (cuts most (room - 1) rows) → Rises from (cond b (row.0 ∷ cuts most (most - 1) rows) (cuts most (room - 1) rows))
      by_test true next same = (all.0, next)
      by_test false next same = same

  pub all_from_start : (keys : List (Key A)) → AllByRecursion (λ l. is_from None l ≡ true) keys
  all_from_start [] = tt
  all_from_start (key ∷ keys) = (refl, all_from_start keys)

  -- ---- the texts of a table's pieces

  -- a piece of a table of the catalog
  pub of_table : (c : Catalog) (X : List (List (Row A))) (r : RowRange A) (d : TableSchema) (rows : List (Row A)) → slice_get c r.table ≡ Some d → rows_of X r.table ≡ rows → piece_text c X (Rows r) ≡ range_text d rows r
  of_table c X r d rows at has = ap (λ (o : Option TableSchema). range_of o (rows_of X r.table) r) at ∙ ap (λ (rs : List (Row A)). range_text d rs r) has

  pub ranges_text : (c : Catalog) (X : List (List (Row A))) (table count : ℕ) (d : TableSchema) (rows : List (Row A)) (from : Option (Key A)) (keys : List (Key A)) → slice_get c table ≡ Some d → rows_of X table ≡ rows → IsInKeyOrder rows → Rises from keys
      → flat_map (piece_text c X) (map Rows (ranges table count from keys)) ≡ start_text d from ++ (rows_text (rows_from from rows) ++ stop_text {A = A} (Last count))
  ranges_text c X table count d rows from [] at has sorted rises =
      append-nil (piece_text c X (Rows record { table = table; from = from; end = Last count }))
      ∙ of_table c X record { table = table; from = from; end = Last count } d rows at has
      ∙ append_assoc (start_text d from) (rows_text (rows_before (Last count) (rows_from from rows))) (stop_text {A = A} (Last count))
      ∙ ap (λ (rs : List (Row A)). start_text d from ++ (rows_text rs ++ stop_text {A = A} (Last count))) (rows_before-last count (rows_from from rows))
  ranges_text c X table count d rows from (key ∷ keys) at has sorted rises =
      let range : RowRange A = record { table = table; from = from; end = Before key } in
      let here : List (Row A) = rows_before (Before key) (rows_from from rows) in
      let after : List (Row A) = rows_from (Some key) rows in
      let stop : List ℕ = stop_text {A = A} (Last count) in
      ap (λ (t : List ℕ). t ++ flat_map (piece_text c X) (map Rows (ranges table count (Some key) keys))) (of_table c X range d rows at has)
      ∙ ap (λ (t : List ℕ). range_text d rows range ++ t) (ranges_text c X table count d rows (Some key) keys at has sorted rises.1)
      ∙ nested (start_text d from) (rows_text here) (rows_text after) stop
      ∙ ap (λ (t : List ℕ). start_text d from ++ (t ++ stop)) (sym (flat_map-append (λ (row : Row A). row_text (row.0 ∷ row.1)) here after) ∙ ap rows_text (sym (rows_from-split from key rows sorted rises.0)))

  -- ---- reading the rows of a piece

  none_later : (end : RowsEnd A) (k : Key A) (rows : List (Row A)) → AllByRecursion (λ l. value_cmp k l ≡ Less) (map (λ row. row.0) rows) → is_before end k ≡ false → rows_before end rows ≡ []
  none_later (Before end) k rows later h = none_before end k rows later h
  none_later (Last count) k rows later h = absurd cc

  -- where the first row is not before the end, none is
  pub none_left : (end : RowsEnd A) (rows rest : List (Row A)) (row : Row A) → rows ≡ row ∷ rest → IsInKeyOrder rows → is_before end row.0 ≡ false → rows_before end rows ≡ []
  unfolding IsStrictlySortedBy
  none_left end rows rest row is sorted h = let order = subst IsInKeyOrder is sorted in rw (is, h) (none_later end row.0 rest order.0 h)

  -- a row that is before it
  pub read_row : (end : RowsEnd A) (rows rest : List (Row A)) (row : Row A) (old new total : List ℕ) → rows ≡ row ∷ rest → IsInKeyOrder rows → is_before end row.0 ≡ true → old ++ rows_text (rows_before end rows) ≡ total
      → new ≡ old ++ row_text (row.0 ∷ row.1) → (new ++ rows_text (rows_before end rest) ≡ total) × IsInKeyOrder rest
  unfolding IsStrictlySortedBy
  read_row end rows rest row old new total is sorted h so_far made =
      let more : List ℕ = rows_text (rows_before end rest) in
      let whole : rows_text (rows_before end rows) ≡ row_text (row.0 ∷ row.1) ++ more = rw (is, h) refl in
      let order = subst IsInKeyOrder is sorted in
      (ap (λ (t : List ℕ). t ++ more) made ∙ append_assoc old (row_text (row.0 ∷ row.1)) more ∙ ap (λ (t : List ℕ). old ++ t) (sym whole) ∙ so_far, order.1)

  -- the rows from a key on are in key order too
  keys_from : (from : Option (Key A)) (rows : List (Row A)) → map (λ row. row.0) (rows_from from rows) ≡ filter (is_from from) (map (λ row. row.0) rows)
  keys_from from [] = refl
  keys_from from (row ∷ rows) = by_test (is_from from row.0) (keys_from from rows)
    where
      by_test : (b : Bool) → map (λ row. row.0) (rows_from from rows) ≡ filter (is_from from) (map (λ row. row.0) rows)
          → map (λ row. row.0) (cond b (row ∷ rows_from from rows) (rows_from from rows)) ≡ cond b (row.0 ∷ filter (is_from from) (map (λ row. row.0) rows)) (filter (is_from from) (map (λ row. row.0) rows))
      by_test true e = ap (λ keys. row.0 ∷ keys) e
      by_test false e = e

  pub rows_from-rise : (from : Option (Key A)) (rows : List (Row A)) → IsInKeyOrder rows → IsInKeyOrder (rows_from from rows)
  rows_from-rise from rows sorted = subst (IsStrictlySortedBy value_cmp) (sym (keys_from from rows)) (IsStrictlySortedBy-filter value_cmp (is_from from) (map (λ row. row.0) rows) sorted)

  -- ---- cutting a table

  -- a row that is not the first of a further piece
  pub goes_on : (most room n count : ℕ) (keys : List (Key A)) (total : List (Key A)) (rows rest : List (Row A)) (row : Row A) → rows ≡ row ∷ rest → 0 < room → keys ++ cuts most room rows ≡ total → n + length rows ≡ count
      → (keys ++ cuts most (room - 1) rest ≡ total) × (n + 1 + length rest ≡ count)
  goes_on most room n count keys total rows rest row is inside so_far counted =
      let full : (room == 0) ≡ false = grind (arith, nat_tests) in
      let same : cuts most room rows ≡ cuts most (room - 1) rest = rw (is, full) refl in
      let longer : length rows ≡ suc (length rest) = ap length is in
      (ap (λ ks. keys ++ ks) (sym same) ∙ so_far, omega arith)

  -- one that is
  pub is_cut : (most room n count : ℕ) (keys more : List (Key A)) (total : List (Key A)) (rows rest : List (Row A)) (row : Row A) → rows ≡ row ∷ rest → room ≡ 0 → keys ++ cuts most room rows ≡ total → more ≡ keys ++ row.0 ∷ [] → n + length rows ≡ count
      → (more ++ cuts most (most - 1) rest ≡ total) × (n + 1 + length rest ≡ count)
  is_cut most room n count keys more total rows rest row is full so_far made counted =
      let same : cuts most room rows ≡ row.0 ∷ cuts most (most - 1) rest = rw (is, full) refl in
      let longer : length rows ≡ suc (length rest) = ap length is in
      (ap (λ ks. ks ++ cuts most (most - 1) rest) made ∙ append_assoc keys (row.0 ∷ []) (cuts most (most - 1) rest) ∙ ap (λ ks. keys ++ ks) (sym same) ∙ so_far, omega arith)

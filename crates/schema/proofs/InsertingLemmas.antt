-- A row against which nothing stands may stand in its table, and sound tables stay sound with it.
use Rattle.std.proofs.Common.{◌≡◌, ℕ, zero, suc, ◌+◌, ◌<◌, ◌≤◌, ◌⊎◌, inl, inr, Bool, true, false, true≢false, T, cond, not, ◌&&◌, List, [], ◌∷◌, map, length, Option, Some, None, is_some, slice_get, set, get_or, drop, add-one, if◌then◌else◌, eqb, Result, Ok, Err, OnOk, OnErr, refl, sym, ap, ◌∙◌, arith}
use Rattle.std.specs.List.{list_any, list_all}
use Rattle.std.specs.List.Sorted.{IsStrictlySortedBy}
use Rattle.std.specs.List.{AllByRecursion}
use Rattle.std.specs.FinMap.{is_sorted, put}
use Rattle.std.specs.FinMap.Entries.{below_all, by_order}
use Rattle.std.specs.Ordering.{match_ordering}
use Rattle.std.specs.declared.cmp.Ordering.{Ordering}
use Rattle.std.specs.declared.cmp.Ordering.TheVariants.{Less, Equal, Greater}
use Rattle.std.proofs.lemmas.Bool.{eqb-true, not-false, or_parts, and_parts}
use Rattle.std.proofs.lemmas.Float.{T_from_true}
use Rattle.std.proofs.lemmas.List.{drop_all}
use Rattle.value.specs.declared.kind.Kind.{Kind}
use Rattle.value.specs.declared.kind.Kind.TheVariants as kind
use Rattle.value.specs.declared.refusal.Code.{Code}
use Rattle.value.specs.declared.value.Value.{Value}
use Rattle.value.specs.declared.value.Value.TheVariants.{Null, Int, Text, Bytes}
use Rattle.value.specs.Order.{value_cmp, value_cmp-exact}
use Rattle.value.proofs.Basics.{cases_le}
use Rattle.schema.specs.Definition.{Column, TableSchema, Catalog, columns_of}
use Rattle.schema.specs.declared.row.Row.{Row}
use Rattle.schema.specs.declared.changes.Change.{Change}
use Rattle.schema.specs.declared.tables.Tables.{Tables}
use Rattle.schema.specs.Plain.{same, is_null, cells, rows_of, row_at, is_there, has_kind, fits_columns, is_sound_table, sound_tables, is_sound, changed, put_all}
use Rattle.schema.specs.Rows.{put_row, IsInKeyOrder}
use Rattle.schema.specs.Inserting.{is_of_kind, are_of_kinds, has_zero_byte, is_made, lacks_value, dangles, inserting_fault}
use Rattle.schema.proofs.NamedLemmas.{columns_of-get}
use Rattle.schema.proofs.PlainLemmas.{same_value, IsOrdered, touches, left_by, rows_of-past}
use Rattle.schema.proofs.SoundLemmas.{sound_from, sound_to, sound_changes, sound_at, sound_count, row_ok}

all_three : (a b c : Bool) → a ≡ true → b ≡ false → c ≡ true → (a && not b && c) ≡ true
all_three a b c p q r = rw (p, q, r) refl

-- no fault: none of the five
none_of : (a b c d e : Bool) (v w x y z : Code) → (if a then Some v else (if b then Some w else (if c then Some x else (if d then Some y else (if e then Some z else None))))) ≡ None
    → (a ≡ false) × (b ≡ false) × (c ≡ false) × (d ≡ false) × (e ≡ false)
none_of true b c d e v w x y z h = cc
none_of false true c d e v w x y z h = cc
none_of false false true d e v w x y z h = cc
none_of false false false true e v w x y z h = cc
none_of false false false false true v w x y z h = cc
none_of false false false false false v w x y z h = (refl, refl, refl, refl, refl)

some_table : (c : Catalog) (t : ℕ) → t < length c → (d : TableSchema) × (slice_get c t ≡ Some d)
some_table [] t within = absurd (omega arith)
some_table (d ∷ c) zero within = (d, refl)
some_table (d ∷ c) (suc t) within = some_table c t (omega arith)

-- a put that was done, or not
put_or_not : {X U E : Type 0} (r : Result U E) (old new made : X) → OnOk r (new ≡ made) → OnErr r (new ≡ old) → (new ≡ made) ⊎ (new ≡ old)
put_or_not (Ok u) old new made ok err = inl ok
put_or_not (Err e) old new made ok err = inr err

module _ {A : Type 0} where
  -- a value that is made, of the kind, with no zero byte, is what soundness asks
  kind_from : (k : Kind) (v : Value A) → is_of_kind k v ≡ true → is_made v ≡ true → has_zero_byte v ≡ false → has_kind k v ≡ true
  kind_from k Null is made clear = refl
  kind_from kind.Bigint (Int n) is made clear = made
  kind_from kind.Bigint (Text t) is made clear = absurd (true≢false (sym is))
  kind_from kind.Bigint (Bytes b) is made clear = absurd (true≢false (sym is))
  kind_from kind.Text (Int n) is made clear = absurd (true≢false (sym is))
  kind_from kind.Text (Text t) is made clear = rw (made, clear) refl
  kind_from kind.Text (Bytes b) is made clear = absurd (true≢false (sym is))
  kind_from kind.Bytea (Int n) is made clear = absurd (true≢false (sym is))
  kind_from kind.Bytea (Text t) is made clear = absurd (true≢false (sym is))
  kind_from kind.Bytea (Bytes b) is made clear = made

  fits_from : (X : Tables A) (ds : List Column) (vs : List (Value A)) → are_of_kinds ds vs ≡ true → list_all is_made vs ≡ true → list_any has_zero_byte vs ≡ false → lacks_value ds vs ≡ false → dangles X ds vs ≡ false → fits_columns X ds vs ≡ true
  fits_from X [] [] is made clear full there = refl
  fits_from X [] (v ∷ vs) is made clear full there = absurd (true≢false (sym is))
  fits_from X (d ∷ ds) [] is made clear full there = absurd (true≢false (sym is))
  fits_from X (d ∷ ds) (v ∷ vs) is made clear full there =
      let p = and_parts (is_of_kind d.kind v) (are_of_kinds ds vs) is in
      let q = and_parts (is_made v) (list_all is_made vs) made in
      let r = or_parts (has_zero_byte v) (list_any has_zero_byte vs) clear in
      let s = or_parts (d.not_null && is_null v) (lacks_value ds vs) full in
      let t = or_parts (not (is_there X d v)) (dangles X ds vs) there in
      rw (all_three (has_kind d.kind v) (d.not_null && is_null v) (is_there X d v) (kind_from d.kind v p.0 q.0 r.0) s.0 (not-false (is_there X d v) t.0)) (fits_from X ds vs p.1 q.1 r.1 s.1 t.1)

  -- a row against which nothing stands
  row_from : (c : Catalog) (X : Tables A) (t : ℕ) (row : Row A) → inserting_fault c X t row ≡ None → list_all is_made (cells row) ≡ true → fits_columns X (columns_of c t) (cells row) ≡ true
  row_from c X t row none made =
      let n = none_of (not (are_of_kinds (columns_of c t) (cells row))) (list_any has_zero_byte (cells row)) (lacks_value (columns_of c t) (cells row)) (is_some (row_at X t row.0)) (dangles X (columns_of c t) (cells row)) _ _ _ _ _ none in
      fits_from X (columns_of c t) (cells row) (not-false _ n.0) made n.1 n.2 n.4

  -- the two ways to put in a row are one
  pub put_row-put : (rows : List (Row A)) (row : Row A) → put value_cmp row.0 row.1 rows ≡ put_row rows row
  put_row-put [] row = refl
  put_row-put (first ∷ rows) row = by_cases (value_cmp row.0 first.0) refl (put_row-put rows row)
    where
      by_cases : (o : Ordering) → value_cmp row.0 first.0 ≡ o → put value_cmp row.0 row.1 rows ≡ put_row rows row
          → by_order o ((row.0, row.1) ∷ first ∷ rows) ((first.0, row.1) ∷ rows) (first ∷ put value_cmp row.0 row.1 rows) ≡ match_ordering o (row ∷ first ∷ rows) (row ∷ rows) (first ∷ put_row rows row)
      by_cases Less is rest = refl
      by_cases Equal is rest = ap (λ k. (k, row.1) ∷ rows) (sym (value_cmp-exact row.0 first.0 is))
      by_cases Greater is rest = ap (λ more. first ∷ more) rest

  -- a row that is put in is a change put in
  pub put_changed : {U E : Type 0} (r : Result U E) (rows new : List (Row A)) (row : Row A) (k : Value A) (fields : List (Value A)) (said : Option (List (Value A))) → row ≡ (k, fields) → said ≡ Some fields
      → OnOk r (new ≡ put_row rows row) → OnOk r (new ≡ changed k said rows)
  put_changed (Ok u) rows new row k fields said is some put = put ∙ sym (put_row-put rows row) ∙ ap (λ (p : Row A). changed p.0 (Some p.1) rows) is ∙ ap (λ o. changed k o rows) (sym some)
  put_changed (Err e) rows new row k fields said is some put = tt

  change_of : ℕ → Row A → Change A
  change_of t row = record { table = t; key = row.0; fields = Some row.1 }

  -- a table that is in order is sorted
  below_is : (k : Value A) (rows : List (Row A)) → AllByRecursion (λ l. value_cmp k l ≡ Less) (map (λ row. row.0) rows) → below_all value_cmp k rows ≡ true
  below_is k [] below = refl
  below_is k (row ∷ rows) below = rw (below.0) (below_is k rows below.1)

  pub sorted_from : (rows : List (Row A)) → IsInKeyOrder rows → is_sorted value_cmp rows ≡ true
  unfolding IsStrictlySortedBy
  sorted_from [] sorted = refl
  sorted_from (row ∷ rows) sorted = rw (below_is row.0 rows sorted.0) (sorted_from rows sorted.1)

  -- sound tables are in order
  ordered_from : (c : Catalog) (X : Tables A) → length X ≡ length c → is_sound c X ≡ true → IsOrdered X
  ordered_from c X count sound = record { each = λ t. go t (cases_le (length X) t) }
    where
      go : (t : ℕ) → (length X ≤ t) ⊎ (t < length X) → T (is_sorted value_cmp (rows_of X t))
      go t (inl past) = rw (rows_of-past X t past) tt
      go t (inr within) =
          let d = some_table c t (omega arith) in
          T_from_true (is_sorted value_cmp (rows_of X t)) (and_parts (is_sorted value_cmp (rows_of X t)) _ (sound_at X c X t d.0 sound d.1)).0

  -- Sound tables stay sound with a row against which nothing stands.
  pub inserted_sound : (c : Catalog) (X : Tables A) (t : ℕ) (row : Row A) → length X ≡ length c → is_null row.0 ≡ false → inserting_fault c X t row ≡ None → list_all is_made (cells row) ≡ true
      → is_sound c X ≡ true → is_sound c (set X t (put_row (rows_of X t) row)) ≡ true
  inserted_sound c X t row count key none made sound =
      ap (λ rows. is_sound c (set X t rows)) (sym (put_row-put (rows_of X t) row)) ∙ sound_to c (put_all (x ∷ []) X) (sound_changes c X (x ∷ []) (sound_from c X (ordered_from c X count sound) sound) no_row_goes new)
    where
      x : Change A
      x = record { table = t; key = row.0; fields = Some row.1 }

      no_row_goes : (u : ℕ) (k : Value A) → left_by u k (x ∷ []) ≡ Some None → ⊥
      no_row_goes u k h = go (touches u k x) h
        where
          go : (b : Bool) → cond b (Some (Some row.1)) None ≡ Some None → ⊥
          go true e = cc
          go false e = cc

      new : (u : ℕ) (d : TableSchema) → slice_get c u ≡ Some d → (k : Value A) (fields : List (Value A)) → left_by u k (x ∷ []) ≡ Some (Some fields) → row_ok X d k fields ≡ true
      new u d is k fields h = go (touches u k x) refl h
        where
          go : (b : Bool) → touches u k x ≡ b → cond b (Some (Some row.1)) None ≡ Some (Some fields) → row_ok X d k fields ≡ true
          go false q e = cc
          go true q e =
              let p = and_parts (eqb t u) (same k row.0) q in
              let table : t ≡ u = eqb-true t u p.0 in
              let same_key : k ≡ row.0 = same_value k row.0 p.1 in
              let same_fields : row.1 ≡ fields = cc in
              let columns : columns_of c t ≡ d.columns = ap (columns_of c) table ∙ columns_of-get c u d is in
              let fits : fits_columns X d.columns (cells row) ≡ true = ap (λ ds. fits_columns X ds (cells row)) (sym columns) ∙ row_from c X t row none made in
              ap (λ v. not (is_null v) && fits_columns X d.columns (v ∷ fields)) same_key
              ∙ ap (λ fs. not (is_null row.0) && fits_columns X d.columns (row.0 ∷ fs)) (sym same_fields)
              ∙ ap (λ b. not b && fits_columns X d.columns (cells row)) key ∙ fits

  -- what a call of `put` leaves is sound
  pub put_sound : {U E : Type 0} (r : Result U E) (c : Catalog) (X Y : Tables A) (t : ℕ) (row : Row A) → OnOk r (Y ≡ set X t (put_row (rows_of X t) row)) → OnErr r (Y ≡ X)
      → length X ≡ length c → is_null row.0 ≡ false → inserting_fault c X t row ≡ None → list_all is_made (cells row) ≡ true → is_sound c X ≡ true → is_sound c Y ≡ true
  put_sound r c X Y t row ok err count key none made sound = go (put_or_not r X Y (set X t (put_row (rows_of X t) row)) ok err)
    where
      go : (Y ≡ set X t (put_row (rows_of X t) row)) ⊎ (Y ≡ X) → is_sound c Y ≡ true
      go (inl e) = ap (is_sound c) e ∙ inserted_sound c X t row count key none made sound
      go (inr e) = ap (is_sound c) e ∙ sound

  -- ---- a test of all tables

  pub kinds_short : (ds : List Column) (vs : List (Value A)) → 0 < length ds → length vs ≡ 0 → are_of_kinds ds vs ≡ false
  kinds_short [] vs some none = absurd (omega arith)
  kinds_short (d ∷ ds) [] some none = refl
  kinds_short (d ∷ ds) (v ∷ vs) some none = absurd (omega arith)

  pub fits_short : (X : Tables A) (ds : List Column) (vs : List (Value A)) → 0 < length ds → length vs ≡ 0 → fits_columns X ds vs ≡ false
  fits_short X [] vs some none = absurd (omega arith)
  fits_short X (d ∷ ds) [] some none = refl
  fits_short X (d ∷ ds) (v ∷ vs) some none = absurd (omega arith)

  -- tables of another number aren't sound
  pub another_number : (c : Catalog) (X : Tables A) → (length X ≡ length c → ⊥) → is_sound c X ≡ false
  another_number c X differ = go (is_sound c X) refl
    where
      go : (b : Bool) → is_sound c X ≡ b → b ≡ false
      go true e = absurd (differ (sound_count X c X e))
      go false e = refl

  sound_at_place : (X : Tables A) (c : Catalog) (Y : List (List (Row A))) (i : ℕ) (d : TableSchema) (rows : List (Row A)) → slice_get c i ≡ Some d → i < length Y → rows ≡ get_or Y i rows
      → sound_tables X (drop i c) (drop i Y) ≡ (is_sound_table X d rows && sound_tables X (drop (suc i) c) (drop (suc i) Y))
  sound_at_place X [] Y i d rows is within at = cc
  sound_at_place X (b ∷ c) [] i d rows is within at = absurd (omega arith)
  sound_at_place X (b ∷ c) (y ∷ Y) zero d rows is within at =
      let same_table : b ≡ d = cc in
      ap (λ x. is_sound_table X x y && sound_tables X c Y) same_table ∙ ap (λ r. is_sound_table X d r && sound_tables X c Y) (sym at)
  sound_at_place X (b ∷ c) (y ∷ Y) (suc i) d rows is within at = sound_at_place X c Y i d rows is (omega arith) at

  module _ (X : Tables A) (c : Catalog) (i : ℕ) (d : TableSchema) (rows : List (Row A)) (is : slice_get c i ≡ Some d) (within : i < length X) (at : rows ≡ get_or X i rows) where
    -- the tables from a place on are that table and those after it
    sound_step : sound_tables X (drop i c) (drop i X) ≡ (is_sound_table X d rows && sound_tables X (drop (i + 1) c) (drop (i + 1) X))
    sound_step = sound_at_place X c X i d rows is within at ∙ rw add-one refl

    pub still_sound : is_sound_table X d rows ≡ true → sound_tables X (drop i c) (drop i X) ≡ is_sound c X → sound_tables X (drop (i + 1) c) (drop (i + 1) X) ≡ is_sound c X
    still_sound one so_far = sym (ap (λ b. b && sound_tables X (drop (i + 1) c) (drop (i + 1) X)) one) ∙ sym sound_step ∙ so_far

    pub not_sound : is_sound_table X d rows ≡ false → sound_tables X (drop i c) (drop i X) ≡ is_sound c X → false ≡ is_sound c X
    not_sound one so_far = sym (ap (λ b. b && sound_tables X (drop (i + 1) c) (drop (i + 1) X)) one) ∙ sym sound_step ∙ so_far

  -- past the last table all were sound
  pub all_sound : (X : Tables A) (c : Catalog) (i : ℕ) → length X ≤ i → length c ≤ i → sound_tables X (drop i c) (drop i X) ≡ is_sound c X → true ≡ is_sound c X
  all_sound X c i past_tables past_catalog so_far = sym (rw (drop_all i c past_catalog, drop_all i X past_tables) refl) ∙ so_far

-- A row of sound tables, written as a line and put in after the rows before it.
use Rattle.std.proofs.Common.{◌≡◌, ℕ, ◌<◌, Bool, true, false, Ok, not, eqb, ◌&&◌, ◌||◌, List, [], ◌∷◌, ◌++◌, length, set, map, Option, Some, None, is_some, refl, sym, ap, ◌∙◌, arith}
use Rattle.std.specs.List.{list_any, list_all}
use Rattle.std.specs.FinMap.{find, is_sorted}
use Rattle.std.specs.FinMap.Entries.{below_all}
use Rattle.std.specs.Option.{option_map_or}
use Rattle.std.specs.Ordering.{is_lt, ordering_reverse}
use Rattle.std.specs.declared.cmp.Ordering.TheVariants.{Greater}
use Rattle.std.specs.Str.{is_utf8}
use Rattle.std.proofs.lemmas.Bool.{and_parts, and_from, not-true, or_from}
use Rattle.std.proofs.lemmas.List.{get_or_append_left}
use Rattle.std.proofs.lemmas.Option.{slice_get_within}
use Rattle.std.proofs.Math.Seq.{get_or-append_seam, set-append_seam}
use Rattle.value.specs.declared.kind.Kind.{Kind}
use Rattle.value.specs.declared.kind.Kind.TheVariants as kind
use Rattle.value.specs.declared.value.Value.{Value}
use Rattle.value.specs.declared.value.Value.TheVariants.{Null, Int, Text, Bytes}
use Rattle.value.specs.Order.{value_cmp, value_cmp-total}
use Rattle.value.proofs.Basics.{Less-from_lt}
use Rattle.schema.specs.Definition.{Column, Catalog, columns_of}
use Rattle.schema.specs.declared.row.Row.{Row}
use Rattle.schema.specs.declared.tables.Tables.{Tables}
use Rattle.schema.specs.Adding.{key_has_kind}
use Rattle.schema.specs.Rows.{put_row}
use Rattle.schema.specs.Plain.{is_null, cells, rows_of, row_at, has_kind, is_there, fits_columns}
use Rattle.schema.specs.Inserting.{is_of_kind, are_of_kinds, has_zero_byte, lacks_value, dangles, inserting_fault, inserted}
use Rattle.copytext.specs.RoundTrip.{fit_kinds}
use Rattle.schema.specs.WellFormed.{references_key}
use Rattle.restore.proofs.again.Catalog.{key_there}

module _ {A : Type 0} where
  -- ---- values of their columns' kinds

  pub kind_is : (k : Kind) (v : Value A) → has_kind k v ≡ true → is_of_kind k v ≡ true
  kind_is k Null h = refl
  kind_is kind.Bigint (Int n) h = refl
  kind_is kind.Bigint (Text t) h = absurd cc
  kind_is kind.Bigint (Bytes b) h = absurd cc
  kind_is kind.Text (Int n) h = absurd cc
  kind_is kind.Text (Text t) h = refl
  kind_is kind.Text (Bytes b) h = absurd cc
  kind_is kind.Bytea (Int n) h = absurd cc
  kind_is kind.Bytea (Text t) h = absurd cc
  kind_is kind.Bytea (Bytes b) h = refl

  pub no_zero : (k : Kind) (v : Value A) → has_kind k v ≡ true → has_zero_byte v ≡ false
  no_zero k Null h = refl
  no_zero k (Int n) h = refl
  no_zero kind.Bigint (Text t) h = absurd cc
  no_zero kind.Text (Text t) h = not-true (list_any (λ b. eqb b 0) t) (and_parts (is_utf8 t) (not (list_any (λ b. eqb b 0) t)) h).1
  no_zero kind.Bytea (Text t) h = absurd cc
  no_zero k (Bytes b) h = refl

  -- ---- a row's values in their columns

  -- what holds of the values of a sound row
  record IsFit (X : Tables A) (d : Column) (v : Value A) : Type 0 where
    kind : has_kind d.kind v ≡ true
    present : (d.not_null && is_null v) ≡ false
    there : is_there X d v ≡ true

  fit : (X : Tables A) (d : Column) (v : Value A) (rest : Bool) → (has_kind d.kind v && not (d.not_null && is_null v) && is_there X d v && rest) ≡ true → IsFit X d v × (rest ≡ true)
  fit X d v rest h =
      let p = and_parts (has_kind d.kind v && not (d.not_null && is_null v) && is_there X d v) rest h in
      let q = and_parts (has_kind d.kind v && not (d.not_null && is_null v)) (is_there X d v) p.0 in
      let r = and_parts (has_kind d.kind v) (not (d.not_null && is_null v)) q.0 in
      (record { kind = r.0; present = not-true (d.not_null && is_null v) r.1; there = q.1 }, p.1)

  of_kinds : (X : Tables A) (ds : List Column) (vs : List (Value A)) → fits_columns X ds vs ≡ true → are_of_kinds ds vs ≡ true
  of_kinds X [] [] h = refl
  of_kinds X [] (v ∷ vs) h = absurd cc
  of_kinds X (d ∷ ds) [] h = absurd cc
  of_kinds X (d ∷ ds) (v ∷ vs) h =
      let p = fit X d v (fits_columns X ds vs) h in
      and_from (is_of_kind d.kind v) (are_of_kinds ds vs) (kind_is d.kind v p.0.kind) (of_kinds X ds vs p.1)

  no_zeros : (X : Tables A) (ds : List Column) (vs : List (Value A)) → fits_columns X ds vs ≡ true → list_any has_zero_byte vs ≡ false
  no_zeros X [] [] h = refl
  no_zeros X [] (v ∷ vs) h = absurd cc
  no_zeros X (d ∷ ds) [] h = absurd cc
  no_zeros X (d ∷ ds) (v ∷ vs) h =
      let p = fit X d v (fits_columns X ds vs) h in
      or_from (has_zero_byte v) (list_any has_zero_byte vs) (no_zero d.kind v p.0.kind) (no_zeros X ds vs p.1)

  no_lack : (X : Tables A) (ds : List Column) (vs : List (Value A)) → fits_columns X ds vs ≡ true → lacks_value ds vs ≡ false
  no_lack X [] [] h = refl
  no_lack X [] (v ∷ vs) h = absurd cc
  no_lack X (d ∷ ds) [] h = absurd cc
  no_lack X (d ∷ ds) (v ∷ vs) h =
      let p = fit X d v (fits_columns X ds vs) h in
      or_from (d.not_null && is_null v) (lacks_value ds vs) p.0.present (no_lack X ds vs p.1)

  pub kinds_fit : (X : Tables A) (ds : List Column) (vs : List (Value A)) → fits_columns X ds vs ≡ true → fit_kinds (map (λ d. d.kind) ds) vs ≡ true
  kinds_fit X [] [] h = refl
  kinds_fit X [] (v ∷ vs) h = absurd cc
  kinds_fit X (d ∷ ds) [] h = absurd cc
  kinds_fit X (d ∷ ds) (v ∷ vs) h =
      let p = fit X d v (fits_columns X ds vs) h in
      and_from (has_kind d.kind v) (fit_kinds (map (λ e. e.kind) ds) vs) p.0.kind (kinds_fit X ds vs p.1)

  -- ---- references to tables before

  -- what is there in X is there in Y, in the tables that may be referenced
  there_too : (before : Catalog) (X Y : Tables A) → ((u : ℕ) → u < length before → rows_of Y u ≡ rows_of X u) → (k : Kind) (o : Option ℕ) (v : Value A) → option_map_or (λ t. key_has_kind before t k) o true ≡ true
      → (is_null v || option_map_or (λ t. is_some (row_at X t v)) o true) ≡ true → not (is_null v || option_map_or (λ t. is_some (row_at Y t v)) o true) ≡ false
  there_too before X Y same k None v r h = ap not h
  there_too before X Y same k (Some u) v r h =
      let there = key_there before u k r in
      let at : rows_of Y u ≡ rows_of X u = same u (slice_get_within before u there.0 there.1) in
      ap (λ rows. not (is_null v || is_some (find value_cmp v rows))) at ∙ ap not h

  no_dangling : (before : Catalog) (X Y : Tables A) → ((u : ℕ) → u < length before → rows_of Y u ≡ rows_of X u) → (ds : List Column) (vs : List (Value A)) → list_all (references_key before) ds ≡ true
      → fits_columns X ds vs ≡ true → dangles Y ds vs ≡ false
  no_dangling before X Y same [] [] r h = refl
  no_dangling before X Y same [] (v ∷ vs) r h = absurd cc
  no_dangling before X Y same (d ∷ ds) [] r h = absurd cc
  no_dangling before X Y same (d ∷ ds) (v ∷ vs) r h =
      let p = fit X d v (fits_columns X ds vs) h in
      let q = and_parts (references_key before d) (list_all (references_key before) ds) r in
      or_from (not (is_there Y d v)) (dangles Y ds vs) (there_too before X Y same d.kind d.references v q.0 p.0.there) (no_dangling before X Y same ds vs q.1 p.1)

  -- ---- a row above those before it

  among : (k : Value A) (front : List (Row A)) (row : Row A) (rest : List (Row A)) → below_all value_cmp k (front ++ row ∷ rest) ≡ true → is_lt (value_cmp k row.0) ≡ true
  among k [] row rest h = (and_parts (is_lt (value_cmp k row.0)) (below_all value_cmp k rest) h).0
  among k (x ∷ front) row rest h = among k front row rest (and_parts (is_lt (value_cmp k x.0)) (below_all value_cmp k (front ++ row ∷ rest)) h).1

  above : (x : Row A) (front : List (Row A)) (row : Row A) (rest : List (Row A)) → is_sorted value_cmp (x ∷ (front ++ row ∷ rest)) ≡ true → (value_cmp row.0 x.0 ≡ Greater) × (is_sorted value_cmp (front ++ row ∷ rest) ≡ true)
  above x front row rest h =
      let p = and_parts (below_all value_cmp x.0 (front ++ row ∷ rest)) (is_sorted value_cmp (front ++ row ∷ rest)) h in
      (value_cmp-total.antisymm row.0 x.0 ∙ ap ordering_reverse (Less-from_lt (value_cmp x.0 row.0) (among x.0 front row rest p.0)), p.1)

  -- its key isn't there yet
  absent : (front : List (Row A)) (row : Row A) (rest : List (Row A)) → is_sorted value_cmp (front ++ row ∷ rest) ≡ true → find value_cmp row.0 front ≡ None
  absent [] row rest h = refl
  absent (x ∷ front) row rest h =
      let p = above x front row rest h in
      rw p.0 (absent front row rest p.1)

  -- and it is put last
  put_last : (front : List (Row A)) (row : Row A) (rest : List (Row A)) → is_sorted value_cmp (front ++ row ∷ rest) ≡ true → put_row front row ≡ front ++ row ∷ []
  put_last [] row rest h = refl
  put_last (x ∷ front) row rest h =
      let p = above x front row rest h in
      rw p.0 (ap (λ (rows : List (Row A)). x ∷ rows) (put_last front row rest p.1))

  -- ---- a row is inserted again

  pub inserted_by : (c : Catalog) (X : Tables A) (t : ℕ) (row : Row A) → inserting_fault c X t row ≡ None → inserted c X t row ≡ Ok (set X t (put_row (rows_of X t) row))
  inserted_by c X t row h = rw h refl

  pub no_fault : (c : Catalog) (Y : Tables A) (t : ℕ) (row : Row A) (ds : List Column) → columns_of c t ≡ ds → are_of_kinds ds (cells row) ≡ true → list_any has_zero_byte (cells row) ≡ false → lacks_value ds (cells row) ≡ false
      → row_at Y t row.0 ≡ None → dangles Y ds (cells row) ≡ false → inserting_fault c Y t row ≡ None
  no_fault c Y t row ds columns kinds zeros null key reference = rw (columns, kinds, zeros, null, key, reference) refl

  -- the tables before, the rows before, and what follows
  pub inserted_again : (c before : Catalog) (X : Tables A) (Xs : List (List (Row A))) (front : List (Row A)) (row : Row A) (rest : List (Row A)) (es : List (List (Row A))) (ds : List Column)
      → columns_of c (length Xs) ≡ ds → length before ≡ length Xs → list_all (references_key before) ds ≡ true → ((u : ℕ) → u < length Xs → rows_of X u ≡ rows_of Xs u)
      → fits_columns X ds (cells row) ≡ true → is_sorted value_cmp (front ++ row ∷ rest) ≡ true
      → inserted c (Xs ++ front ∷ es) (length Xs) row ≡ Ok (Xs ++ (front ++ row ∷ []) ∷ es)
  inserted_again c before X Xs front row rest es ds columns many references earlier fits sorted =
      let Y : Tables A = Xs ++ front ∷ es in
      let here : rows_of Y (length Xs) ≡ front = get_or-append_seam Xs front es [] in
      let same : (u : ℕ) → u < length before → rows_of Y u ≡ rows_of X u = λ u lt. get_or_append_left Xs (front ∷ es) [] u (omega (arith, lt, many)) ∙ sym (earlier u (omega (arith, lt, many))) in
      let none = no_fault c Y (length Xs) row ds columns (of_kinds X ds (cells row) fits) (no_zeros X ds (cells row) fits) (no_lack X ds (cells row) fits)
      (ap (find value_cmp row.0) here ∙ absent front row rest sorted) (no_dangling before X Y same ds (cells row) references fits) in
      inserted_by c Y (length Xs) row none
      ∙ ap (λ (rows : List (Row A)). Ok (set Y (length Xs) (put_row rows row))) here
      ∙ ap (λ (rows : List (Row A)). Ok (set Y (length Xs) rows)) (put_last front row rest sorted)
      ∙ ap Ok (set-append_seam Xs front es (front ++ row ∷ []))

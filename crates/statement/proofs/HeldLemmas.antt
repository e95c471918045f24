-- What tables of a catalog have for the statements that fit it.
use Rattle.std.proofs.Common.{◌≡◌, ℕ, zero, suc, ◌<◌, Bool, true, false, true≢false, not, ◌&&◌, List, [], ◌∷◌, length, Option, Some, None, Bor, map, Result, Ok, Err, inl, inr, slice_get, refl, sym, ap, subst, arith}
use Rattle.std.proofs.lemmas.Bool.{ltb-true, not-true, and_parts, and_from}
use Rattle.std.proofs.lemmas.Option.{slice_get_within}
use Rattle.std.proofs.lemmas.List.Elements.{All-from_recursion}
use Rattle.std.specs.List.{All, AllByRecursion, list_all}
use Rattle.std.specs.Option.{option_map_or}
use Rattle.std.specs.Result.{IfOk, IfErr}
use Rattle.std.specs.FinMap.{is_sorted}
use Rattle.value.specs.Refusals.{out_of_memory, AnswersOrNoMemory}
use Rattle.value.specs.declared.refusal.Refusal.{Refusal}
use Rattle.value.specs.declared.value.Value.{Value}
use Rattle.value.specs.Order.{value_cmp}
use Rattle.value.proofs.Basics.{all-filter}
use Rattle.schema.specs.Definition.{Column, Catalog}
use Rattle.schema.specs.declared.row.Row.{Row}
use Rattle.schema.specs.declared.tables.Tables.{Tables}
use Rattle.schema.specs.Plain.{is_null, cells, rows_of, columns_of, has_kind, is_there, fits_columns, is_sound_table, sound_tables, is_sound}
use Rattle.statement.specs.declared.condition.Condition.{Condition}
use Rattle.statement.specs.declared.condition.Condition.TheVariants.{Compare, Between, IsNull, IsNotNull}
use Rattle.statement.specs.declared.statement.Projection.{Projection}
use Rattle.statement.specs.declared.statement.Projection.TheVariants as shown
use Rattle.statement.specs.declared.statement.Statement.TheVariants.{Select}
use Rattle.statement.specs.Conditions.{satisfies, chosen}
use Rattle.statement.specs.Fits.{Fits, has_table, column_passes, takes, literals_fit, condition_fits, projection_fits}
use Rattle.statement.specs.Select.{column_of}
use Rattle.statement.specs.Walk.{IsReadable, AreReadable, HasShown, is_row_of, are_of}

passes_within : (test : Column → Bool) (ds : List Column) (n : ℕ) → column_passes test ds n ≡ true → n < length ds
passes_within test ds n e = by_get (slice_get ds n) refl e
  where
    by_get : (o : Option Column) → slice_get ds n ≡ o → option_map_or test o false ≡ true → n < length ds
    by_get None is p = absurd (true≢false (sym p))
    by_get (Some d) is p = slice_get_within ds n d is

columns_within : (ds : List Column) (ns : List ℕ) → list_all (column_passes (λ d. true) ds) ns ≡ true → (m : ℕ) → m ≡ length ds → AllByRecursion (λ n. n < m) ns
columns_within ds [] e m is = tt
columns_within ds (n ∷ ns) e m is =
    let p = and_parts (column_passes (λ d. true) ds n) (list_all (column_passes (λ d. true) ds) ns) e in
    (subst (λ k. n < k) (sym is) (passes_within (λ d. true) ds n p.0), columns_within ds ns p.1 m is)

-- an exact value, or want of memory
pub answered : {T : Type 0} (r : Result T Refusal) (x : T) → IfOk r (λ y. y ≡ x) → IfErr r (λ e. e ≡ out_of_memory) → AnswersOrNoMemory r (Ok x)
answered (Ok y) x ok err = inl (ap Ok ok)
answered (Err e) x ok err = inr (ap Err err)

-- what was answered is the exact value
pub answer_of : {T : Type 0} (y x : T) → AnswersOrNoMemory (Ok y) (Ok x) → y ≡ x
answer_of y x (inl e) = cc
answer_of y x (inr e) = cc

module _ {A : Type 0} where
  -- where there are too few literals, they don't fit
  pub literals_none : (ds : List Column) (vs : List (Value A)) → 0 < length ds → length vs < 1 → false ≡ literals_fit ds vs
  literals_none [] vs some few = absurd (omega arith)
  literals_none (d ∷ ds) [] some few = refl
  literals_none (d ∷ ds) (v ∷ vs) some few = absurd (omega arith)

  pub literals_length : (ds : List Column) (vs : List (Value A)) → literals_fit ds vs ≡ true → length vs ≡ length ds
  literals_length [] [] h = refl
  literals_length (d ∷ ds) (v ∷ vs) h = ap suc (literals_length ds vs (and_parts (takes v d) _ h).1)
  literals_length [] (v ∷ vs) h = absurd (true≢false (sym h))
  literals_length (d ∷ ds) [] h = absurd (true≢false (sym h))

  condition_within : (ds : List Column) (c : Condition A) → condition_fits ds c ≡ true → column_of c < length ds
  condition_within ds (Compare n how v) e = passes_within (takes v) ds n e
  condition_within ds (Between n low high) e = passes_within (λ d. takes low d && takes high d) ds n e
  condition_within ds (IsNull n) e = passes_within (λ d. true) ds n e
  condition_within ds (IsNotNull n) e = passes_within (λ d. true) ds n e

  conditions_within : (ds : List Column) (cs : List (Condition A)) → list_all (condition_fits ds) cs ≡ true → (m : ℕ) → m ≡ length ds → AllByRecursion (λ c. column_of c < m) cs
  conditions_within ds [] e m is = tt
  conditions_within ds (c ∷ cs) e m is =
      let p = and_parts (condition_fits ds c) (list_all (condition_fits ds) cs) e in
      (subst (λ k. column_of c < k) (sym is) (condition_within ds c p.0), conditions_within ds cs p.1 m is)

  -- ---- tables of a catalog

  pub held_length : (c : Catalog) (X : Tables A) → are_of c X ≡ true → length X ≡ length c
  held_length [] [] e = refl
  held_length [] (rows ∷ more) e = absurd (true≢false (sym e))
  held_length (d ∷ ds) [] e = absurd (true≢false (sym e))
  held_length (d ∷ ds) (rows ∷ more) e = ap suc (held_length ds more (and_parts (is_sorted value_cmp rows && list_all (is_row_of d.columns) rows) (are_of ds more) e).1)

  pub held_table : (c : Catalog) (X : Tables A) (t : ℕ) → are_of c X ≡ true → (is_sorted value_cmp (rows_of X t) ≡ true) × (list_all (is_row_of (columns_of c t)) (rows_of X t) ≡ true)
  held_table [] [] t e = (refl, refl)
  held_table [] (rows ∷ more) t e = absurd (true≢false (sym e))
  held_table (d ∷ ds) [] t e = absurd (true≢false (sym e))
  held_table (d ∷ ds) (rows ∷ more) zero e =
      and_parts (is_sorted value_cmp rows) (list_all (is_row_of d.columns) rows) (and_parts (is_sorted value_cmp rows && list_all (is_row_of d.columns) rows) (are_of ds more) e).0
  held_table (d ∷ ds) (rows ∷ more) (suc t) e = held_table ds more t (and_parts (is_sorted value_cmp rows && list_all (is_row_of d.columns) rows) (are_of ds more) e).1

  readable : (ds : List Column) (cs : List (Condition A)) → list_all (condition_fits ds) cs ≡ true → (rows : List (Row A)) → list_all (is_row_of ds) rows ≡ true → AllByRecursion (λ row. IsReadable cs row) rows
  readable ds cs fit [] e = tt
  readable ds cs fit (r ∷ rows) e =
      let p = and_parts (is_row_of ds r) (list_all (is_row_of ds) rows) e in
      let q = and_parts (not (is_null r.0)) (literals_fit ds (cells r)) p.0 in (
        record {
          columns = All-from_recursion (λ c. column_of c < length (cells r)) cs (conditions_within ds cs fit (length (cells r)) (literals_length ds (cells r) q.1));
          key = not-true (is_null r.0) q.0;
        },
        readable ds cs fit rows p.1,
      )

  -- the rows of a table can be tried with conditions that fit
  pub held_readable : (c : Catalog) (X : Tables A) (t : ℕ) (cs : List (Condition A)) → are_of c X ≡ true → list_all (condition_fits (columns_of c t)) cs ≡ true → AreReadable cs (rows_of X t)
  held_readable c X t cs held fit = let p = held_table c X t held in record { sorted = p.0; each = readable (columns_of c t) cs fit (rows_of X t) p.1 }

  shown_within : (ds : List Column) (ns : List ℕ) → list_all (column_passes (λ d. true) ds) ns ≡ true → (rows : List (Row A)) → list_all (is_row_of ds) rows ≡ true → AllByRecursion (λ row. All (λ n. n < length (cells row)) ns) rows
  shown_within ds ns fit [] e = tt
  shown_within ds ns fit (r ∷ rows) e =
      let p = and_parts (is_row_of ds r) (list_all (is_row_of ds) rows) e in
      let q = and_parts (not (is_null r.0)) (literals_fit ds (cells r)) p.0 in
      (All-from_recursion (λ n. n < length (cells r)) ns (columns_within ds ns fit (length (cells r)) (literals_length ds (cells r) q.1)), shown_within ds ns fit rows p.1)

  -- ---- sound tables

  literals_of : (X : Tables A) (ds : List Column) (vs : List (Value A)) → fits_columns X ds vs ≡ true → literals_fit ds vs ≡ true
  literals_of X [] [] e = refl
  literals_of X [] (v ∷ vs) e = absurd (true≢false (sym e))
  literals_of X (d ∷ ds) [] e = absurd (true≢false (sym e))
  literals_of X (d ∷ ds) (v ∷ vs) e =
      let p = and_parts (has_kind d.kind v && not (d.not_null && is_null v) && is_there X d v) (fits_columns X ds vs) e in
      let q = and_parts (has_kind d.kind v && not (d.not_null && is_null v)) (is_there X d v) p.0 in
      and_from (takes v d) (literals_fit ds vs) (and_parts (has_kind d.kind v) (not (d.not_null && is_null v)) q.0).0 (literals_of X ds vs p.1)

  rows_held : (X : Tables A) (ds : List Column) (rows : List (Row A)) → list_all (λ r. not (is_null r.0) && fits_columns X ds (cells r)) rows ≡ true → list_all (is_row_of ds) rows ≡ true
  rows_held X ds [] e = refl
  rows_held X ds (r ∷ rows) e =
      let p = and_parts (not (is_null r.0) && fits_columns X ds (cells r)) (list_all (λ r. not (is_null r.0) && fits_columns X ds (cells r)) rows) e in
      let q = and_parts (not (is_null r.0)) (fits_columns X ds (cells r)) p.0 in
      and_from (is_row_of ds r) (list_all (is_row_of ds) rows) (and_from (not (is_null r.0)) (literals_fit ds (cells r)) q.0 (literals_of X ds (cells r) q.1)) (rows_held X ds rows p.1)

  tables_held : (X : Tables A) (c : Catalog) (Y : Tables A) → sound_tables X c Y ≡ true → are_of c Y ≡ true
  tables_held X [] [] e = refl
  tables_held X [] (rows ∷ more) e = absurd (true≢false (sym e))
  tables_held X (d ∷ ds) [] e = absurd (true≢false (sym e))
  tables_held X (d ∷ ds) (rows ∷ more) e =
      let p = and_parts (is_sound_table X d rows) (sound_tables X ds more) e in
      let q = and_parts (is_sorted value_cmp rows) (list_all (λ r. not (is_null r.0) && fits_columns X d.columns (cells r)) rows) p.0 in
      and_from (is_sorted value_cmp rows && list_all (is_row_of d.columns) rows) (are_of ds more) (and_from (is_sorted value_cmp rows) (list_all (is_row_of d.columns) rows) q.0 (rows_held X d.columns rows q.1)) (tables_held X ds more p.1)

  -- sound tables are the catalog's
  pub held_sound : (c : Catalog) (X : Tables A) → is_sound c X ≡ true → are_of c X ≡ true
  held_sound c X e = tables_held X c X e

  -- ---- SELECT

  pub select_has : (c : Catalog) (X : Tables A) (t : ℕ) (p : Projection A) (cs : List (Condition A)) → are_of c X ≡ true → Fits c (Select t p cs) → t < length X
  select_has c X t p cs held fits =
      let q = and_parts (has_table c t && projection_fits (columns_of c t) p) (list_all (condition_fits (columns_of c t)) cs) fits in
      let r = and_parts (has_table c t) (projection_fits (columns_of c t) p) q.0 in
      subst (λ n. t < n) (sym (held_length c X held)) (ltb-true t (length c) r.0)

  pub select_readable : (c : Catalog) (X : Tables A) (t : ℕ) (p : Projection A) (cs : List (Condition A)) → are_of c X ≡ true → Fits c (Select t p cs) → AreReadable cs (rows_of X t)
  select_readable c X t p cs held fits = held_readable c X t cs held (and_parts (has_table c t && projection_fits (columns_of c t) p) (list_all (condition_fits (columns_of c t)) cs) fits).1

  borrowed : (P : Row A → Type 0) (rows : List (Bor (Row A))) → AllByRecursion P (map (λ row. row.now) rows) → AllByRecursion (λ row. P row.now) rows
  borrowed P [] all = tt
  borrowed P (r ∷ rows) all = (all.0, borrowed P rows all.1)

  pub select_shown : (c : Catalog) (X : Tables A) (t : ℕ) (p : Projection A) (cs : List (Condition A)) (rows : List (Bor (Row A))) → are_of c X ≡ true → Fits c (Select t p cs) → map (λ row. row.now) rows ≡ chosen X t cs → HasShown p rows
  select_shown c X t shown.All cs rows held fits is = tt
  select_shown c X t shown.Count cs rows held fits is = tt
  select_shown c X t (shown.Columns ns) cs rows held fits is =
      let q = and_parts (has_table c t && list_all (column_passes (λ d. true) (columns_of c t)) ns) (list_all (condition_fits (columns_of c t)) cs) fits in
      let r = and_parts (has_table c t) (list_all (column_passes (λ d. true) (columns_of c t)) ns) q.0 in
      let P : Row A → Type 0 = λ row. All (λ n. n < length (cells row)) ns in
      All-from_recursion (λ row. P row.now) rows
      (borrowed P rows (subst (AllByRecursion P) (sym is) (all-filter P (satisfies cs) (rows_of X t) (shown_within (columns_of c t) ns r.1 (rows_of X t) (held_table c X t held).1))))

-- The data of a dump, read table by table and row by row.
use Rattle.std.proofs.Common.{◌≡◌, ℕ, ◌+◌, ◌<◌, ◌≤◌, Bool, true, false, true≢false, cond, Ok, Result, not, ◌&&◌, List, [], ◌∷◌, ◌++◌, length, map, Option, Some, None, slice_get, refl, sym, ap, subst, ◌∙◌, append_assoc, arith}
use Rattle.std.specs.List.{list_all}
use Rattle.std.specs.FinMap.{is_sorted}
use Rattle.std.specs.Str.{bytes_eq}
use Rattle.std.proofs.lemmas.Bool.{and_parts}
use Rattle.std.proofs.lemmas.List.{append-nil, get_or_append_left, length-append}
use Rattle.std.proofs.lemmas.Option.{slice_get_past}
use Rattle.std.proofs.Math.Seq.{get_or-append_seam}
use Rattle.value.specs.declared.kind.Kind.{Kind}
use Rattle.value.specs.declared.refusal.Code.{Code}
use Rattle.value.specs.declared.value.Value.{Value}
use Rattle.value.specs.declared.value.Value.TheVariants.{Null, Int, Text, Bytes}
use Rattle.value.specs.Order.{value_cmp}
use Rattle.value.proofs.Basics.{bytes_eq-self}
use Rattle.schema.specs.Definition.{Column, TableSchema, Catalog, columns_of}
use Rattle.schema.specs.declared.row.Row.{Row}
use Rattle.schema.specs.declared.tables.Tables.{Tables}
use Rattle.schema.specs.Inserting.{empty_tables, inserted}
use Rattle.schema.specs.Plain.{is_null, cells, rows_of, has_kind, fits_columns, is_sound_table, sound_tables}
use Rattle.copytext.specs.Reading.{line_values}
use Rattle.copytext.specs.RoundTrip.{fit_kinds}
use Rattle.copytext.proofs.RoundTrip.{line_values-line_text}
use Rattle.dumpplan.specs.Lines.{copy_line, row_line, end_of_rows, rows_line, last_line, count_lines, table_lines, data_lines}
use Rattle.schema.specs.WellFormed.{references_key, is_table_after, are_tables_after}
use Rattle.restore.specs.Steps.{◌>>=◌}
use Rattle.restore.specs.Reading.{Before, Within, Behind, Whole, kinds_of, copies, with_values, with_row, ended, step}
use Rattle.restore.proofs.again.Catalog.{table_after}
use Rattle.restore.proofs.again.Rows.{kinds_fit, inserted_again}
use Rattle.restore.proofs.again.RowLines.{row_isnt_end}
use Rattle.restore.proofs.again.Lines.{GoesTo, nowhere, goes_on, goes_through, at_seam, columns_at}

module _ {A : Type 0} where
  -- ---- one row

  -- a row's key isn't null, and its values may stand in the columns
  abbrev pub may_stand : Tables A → List Column → Row A → Bool
  may_stand X ds row = not (is_null row.0) && fits_columns X ds (cells row)

  by_key : (c : Catalog) (Y : Tables A) (t : ℕ) (k : Value A) (fields : List (Value A)) → not (is_null k) ≡ true → with_values c Y t (k ∷ fields) ≡ inserted c Y t (k, fields)
  by_key c Y t Null fields h = absurd (true≢false (sym h))
  by_key c Y t (Int n) fields h = refl
  by_key c Y t (Text text) fields h = refl
  by_key c Y t (Bytes bytes) fields h = refl

  -- the line of a row gives its values
  values_read : (kinds : List Kind) (row : Row A) → fit_kinds kinds (cells row) ≡ true → line_values kinds (row_line row) ≡ Ok (cells row)
  values_read kinds row h = line_values-line_text kinds (cells row) h (omega arith)

  isnt_end : (kinds : List Kind) (row : Row A) → fit_kinds kinds (cells row) ≡ true → bytes_eq (row_line row) end_of_rows ≡ false
  isnt_end [] row h = absurd cc
  isnt_end (k ∷ kinds) row h = row_isnt_end k row.0 row.1 (and_parts (has_kind k row.0) (fit_kinds kinds row.1) h).0

  row_read : (c : Catalog) (Y Z : Tables A) (t : ℕ) (row : Row A) (kinds : List Kind) → kinds_of c t ≡ kinds → fit_kinds kinds (cells row) ≡ true → not (is_null row.0) ≡ true → inserted c Y t row ≡ Ok Z
      → with_row c Y t (row_line row) ≡ Ok Z
  row_read c Y Z t row kinds same fits key more =
      ap (λ (ks : List Kind). line_values ks (row_line row) >>= λ values. with_values c Y t values) same
      ∙ ap (λ (r : Result (List (Value A)) Code). r >>= λ values. with_values c Y t values) (values_read kinds row fits)
      ∙ by_key c Y t row.0 row.1 key ∙ more

  by_test : (counted : Bool) (c : Catalog) (Y Z : Tables A) (t : ℕ) (b : Bool) (r : Result (Tables A) Code) → b ≡ false → r ≡ Ok Z
      → cond b (Ok (ended counted c Y t)) (r >>= λ X. Ok (Within counted c X t)) ≡ Ok (Within counted c Z t)
  by_test counted c Y Z t true r isnt read = absurd (true≢false isnt)
  by_test counted c Y Z t false r isnt read = ap (λ (x : Result (Tables A) Code). x >>= λ X. Ok (Within counted c X t)) read

  row_step : (counted : Bool) (c : Catalog) (Y Z : Tables A) (t : ℕ) (row : Row A) → bytes_eq (row_line row) end_of_rows ≡ false → with_row c Y t (row_line row) ≡ Ok Z
      → step (Within counted c Y t) (row_line row) ≡ Ok (Within counted c Z t)
  unfolding step
  row_step counted c Y Z t row isnt read = by_test counted c Y Z t (bytes_eq (row_line row) end_of_rows) (with_row c Y t (row_line row)) isnt read

  -- ---- the rows of a table

  -- a table that is read: the tables before it, its definition, and all tables that are dumped
  pub record IsNext (c cs : Catalog) (d : TableSchema) (X Xs : Tables A) : Type 0 where
    pub at : slice_get c (length Xs) ≡ Some d
    pub many : length cs ≡ length Xs
    pub references : list_all (references_key cs) d.columns ≡ true
    pub earlier : (u : ℕ) → u < length Xs → rows_of X u ≡ rows_of Xs u

  rows_go : (counted : Bool) (c cs : Catalog) (d : TableSchema) (X Xs es : Tables A) → IsNext c cs d X Xs → (front rest : List (Row A)) → is_sorted value_cmp (front ++ rest) ≡ true → list_all (may_stand X d.columns) rest ≡ true
      → GoesTo (Within counted c (Xs ++ front ∷ es) (length Xs)) (map row_line rest) (Within counted c (Xs ++ (front ++ rest) ∷ es) (length Xs))
  rows_go counted c cs d X Xs es next front [] sorted h =
      subst (λ (rows : List (Row A)). GoesTo (Within counted c (Xs ++ front ∷ es) (length Xs)) [] (Within counted c (Xs ++ rows ∷ es) (length Xs))) (sym (append-nil front)) (nowhere (Within counted c (Xs ++ front ∷ es) (length Xs)))
  rows_go counted c cs d X Xs es next front (row ∷ rest) sorted h =
      let p = and_parts (may_stand X d.columns row) (list_all (may_stand X d.columns) rest) h in
      let q = and_parts (not (is_null row.0)) (fits_columns X d.columns (cells row)) p.0 in
      let columns : columns_of c (length Xs) ≡ d.columns = columns_at c (length Xs) d next.at in
      let kinds : kinds_of c (length Xs) ≡ map (λ e. e.kind) d.columns = ap (map (λ (e : Column). e.kind)) columns in
      let fits = kinds_fit X d.columns (cells row) q.1 in
      let more = inserted_again c cs X Xs front row rest es d.columns columns next.many next.references next.earlier q.1 sorted in
      let longer : (front ++ row ∷ []) ++ rest ≡ front ++ row ∷ rest = append_assoc front (row ∷ []) rest in
      goes_on (Within counted c (Xs ++ front ∷ es) (length Xs)) (Within counted c (Xs ++ (front ++ row ∷ []) ∷ es) (length Xs)) (Within counted c (Xs ++ (front ++ row ∷ rest) ∷ es) (length Xs)) (row_line row) (map row_line rest)
      (row_step counted c (Xs ++ front ∷ es) (Xs ++ (front ++ row ∷ []) ∷ es) (length Xs) row (isnt_end (map (λ e. e.kind) d.columns) row fits)
      (row_read c (Xs ++ front ∷ es) (Xs ++ (front ++ row ∷ []) ∷ es) (length Xs) row (map (λ e. e.kind) d.columns) kinds fits q.0 more))
      (subst (λ (rows : List (Row A)). GoesTo (Within counted c (Xs ++ (front ++ row ∷ []) ∷ es) (length Xs)) (map row_line rest) (Within counted c (Xs ++ rows ∷ es) (length Xs))) longer
      (rows_go counted c cs d X Xs es next (front ++ row ∷ []) rest (ap (is_sorted value_cmp) longer ∙ sorted) p.1))

  -- ---- a table

  copy_step : (counted : Bool) (c : Catalog) (Y : Tables A) (t : ℕ) (d : TableSchema) → slice_get c t ≡ Some d → step (Before counted c Y t) (copy_line d) ≡ Ok (Within counted c Y t)
  unfolding step
  copy_step counted c Y t d at = ap (λ (o : Option TableSchema). copies counted c Y t o (copy_line d)) at ∙ rw (bytes_eq-self (copy_line d)) refl

  end_step : (counted : Bool) (c : Catalog) (Y : Tables A) (t : ℕ) → step (Within counted c Y t) end_of_rows ≡ Ok (ended counted c Y t)
  unfolding step
  end_step counted c Y t = refl

  count_step : (c : Catalog) (Y : Tables A) (t : ℕ) (rows : List (Row A)) → rows_of Y t ≡ rows → step (Behind true c Y t) (rows_line (length rows)) ≡ Ok (Before true c Y (t + 1))
  unfolding step
  count_step c Y t rows same = rw (same, bytes_eq-self (rows_line (length rows))) refl

  counts_go : (counted : Bool) (c : Catalog) (Y : Tables A) (t : ℕ) (rows : List (Row A)) → rows_of Y t ≡ rows → GoesTo (Within counted c Y t) (end_of_rows ∷ count_lines counted (length rows)) (Before counted c Y (t + 1))
  counts_go true c Y t rows same =
      goes_on (Within true c Y t) (Behind true c Y t) (Before true c Y (t + 1)) end_of_rows (rows_line (length rows) ∷ []) (end_step true c Y t)
      (goes_on (Behind true c Y t) (Before true c Y (t + 1)) (Before true c Y (t + 1)) (rows_line (length rows)) [] (count_step c Y t rows same) (nowhere (Before true c Y (t + 1))))
  counts_go false c Y t rows same =
      goes_on (Within false c Y t) (Before false c Y (t + 1)) (Before false c Y (t + 1)) end_of_rows [] (end_step false c Y t) (nowhere (Before false c Y (t + 1)))

  table_goes : (counted : Bool) (c cs : Catalog) (d : TableSchema) (X Xs es : Tables A) (rows : List (Row A)) → IsNext c cs d X Xs → is_sound_table X d rows ≡ true
      → GoesTo (Before counted c (Xs ++ [] ∷ es) (length Xs)) (table_lines counted d rows) (Before counted c (Xs ++ rows ∷ es) (length Xs + 1))
  table_goes counted c cs d X Xs es rows next sound =
      let p = and_parts (is_sorted value_cmp rows) (list_all (may_stand X d.columns) rows) sound in
      let t = length Xs in
      goes_on (Before counted c (Xs ++ [] ∷ es) t) (Within counted c (Xs ++ [] ∷ es) t) (Before counted c (Xs ++ rows ∷ es) (t + 1)) (copy_line d) (map row_line rows ++ end_of_rows ∷ count_lines counted (length rows))
      (copy_step counted c (Xs ++ [] ∷ es) t d next.at)
      (goes_through (Within counted c (Xs ++ [] ∷ es) t) (Within counted c (Xs ++ rows ∷ es) t) (Before counted c (Xs ++ rows ∷ es) (t + 1)) (map row_line rows) (end_of_rows ∷ count_lines counted (length rows))
      (rows_go counted c cs d X Xs es next [] rows p.0 p.1)
      (counts_go counted c (Xs ++ rows ∷ es) t rows (get_or-append_seam Xs rows es [])))

  -- ---- all tables

  last_step : (counted : Bool) (c : Catalog) (Y : Tables A) (t : ℕ) → slice_get c t ≡ None → step (Before counted c Y t) last_line ≡ Ok (Whole c Y)
  unfolding step
  last_step counted c Y t none = ap (λ (o : Option TableSchema). copies counted c Y t o last_line) none

  pub tables_go : (counted : Bool) (c cs ds : Catalog) (X Xs Ys : Tables A) → cs ++ ds ≡ c → Xs ++ Ys ≡ X → length cs ≡ length Xs → sound_tables X ds Ys ≡ true → are_tables_after cs ds ≡ true
      → GoesTo (Before counted c (Xs ++ empty_tables ds) (length Xs)) (data_lines counted ds Ys ++ last_line ∷ []) (Whole c X)
  tables_go counted c cs [] X Xs [] whole all many sound h =
      let end : length c ≤ length Xs = let q : length c ≡ length cs = ap length (sym whole ∙ append-nil cs) in omega (arith, q, many) in
      goes_on (Before counted c (Xs ++ []) (length Xs)) (Whole c (Xs ++ [])) (Whole c X) last_line [] (last_step counted c (Xs ++ []) (length Xs) (slice_get_past c (length Xs) end))
      (subst (λ (Z : Tables A). GoesTo (Whole c (Xs ++ [])) [] (Whole c Z)) all (nowhere (Whole c (Xs ++ []))))
  tables_go counted c cs [] X Xs (rows ∷ more) whole all many sound h = absurd (true≢false (sym sound))
  tables_go counted c cs (d ∷ ds) X Xs [] whole all many sound h = absurd (true≢false (sym sound))
  tables_go counted c cs (d ∷ ds) X Xs (rows ∷ more) whole all many sound h =
      let p = and_parts (is_table_after cs d) (are_tables_after (cs ++ d ∷ []) ds) h in
      let facts = table_after cs d p.0 in
      let q = and_parts (is_sound_table X d rows) (sound_tables X ds more) sound in
      let at : slice_get c (length Xs) ≡ Some d = subst (λ (n : ℕ). slice_get c n ≡ Some d) many (subst (λ (x : Catalog). slice_get x (length cs) ≡ Some d) whole (at_seam cs ds d)) in
      let next : IsNext c cs d X Xs = record {
        at = at;
        many = many;
        references = facts.references;
        earlier = λ u lt. subst (λ (x : Tables A). rows_of x u ≡ rows_of Xs u) all (get_or_append_left Xs (rows ∷ more) [] u lt);
      } in
      let Z : Tables A = Xs ++ rows ∷ empty_tables ds in
      let split : (Xs ++ rows ∷ []) ++ empty_tables ds ≡ Z = append_assoc Xs (rows ∷ []) (empty_tables ds) in
      let one_more : length (Xs ++ rows ∷ []) ≡ length Xs + 1 = length-append Xs (rows ∷ []) in
      let many_more : length (cs ++ d ∷ []) ≡ length (Xs ++ rows ∷ []) = length-append cs (d ∷ []) ∙ ap (λ (n : ℕ). n + 1) many ∙ sym one_more in
      let rest = tables_go counted c (cs ++ d ∷ []) ds X (Xs ++ rows ∷ []) more (append_assoc cs (d ∷ []) ds ∙ whole) (append_assoc Xs (rows ∷ []) more ∙ all) many_more q.1 p.1 in
      let rest_at : GoesTo (Before counted c Z (length Xs + 1)) (data_lines counted ds more ++ last_line ∷ []) (Whole c X) =
      subst (λ (n : ℕ). GoesTo (Before counted c Z n) (data_lines counted ds more ++ last_line ∷ []) (Whole c X)) one_more
      (subst (λ (x : Tables A). GoesTo (Before counted c x (length (Xs ++ rows ∷ []))) (data_lines counted ds more ++ last_line ∷ []) (Whole c X)) split rest) in
      subst (λ (ls : List (List ℕ)). GoesTo (Before counted c (Xs ++ [] ∷ empty_tables ds) (length Xs)) ls (Whole c X)) (sym (append_assoc (table_lines counted d rows) (data_lines counted ds more) (last_line ∷ [])))
      (goes_through (Before counted c (Xs ++ [] ∷ empty_tables ds) (length Xs)) (Before counted c Z (length Xs + 1)) (Whole c X) (table_lines counted d rows) (data_lines counted ds more ++ last_line ∷ [])
      (table_goes counted c cs d X Xs (empty_tables ds) rows next q.0) rest_at)

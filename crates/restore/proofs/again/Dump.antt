-- A dump reads as what was dumped.
use Rattle.std.proofs.Common.{◌≡◌, ℕ, ◌≤◌, nat_le, Bool, true, false, true≢false, Ok, not, eqb, ◌&&◌, List, [], ◌∷◌, ◌++◌, length, map, refl, sym, ap, subst, ◌∙◌, append_assoc}
use Rattle.std.specs.List.{list_any, list_all, flat_map}
use Rattle.std.proofs.lemmas.Bool.{and_parts, and_from, leb-true, not-true, not_from_false}
use Rattle.std.specs.FinMap.{is_sorted}
use Rattle.value.specs.Order.{value_cmp}
use Rattle.schema.specs.Definition.{TableSchema, Catalog}
use Rattle.schema.specs.declared.row.Row.{Row}
use Rattle.schema.specs.declared.tables.Tables.{Tables}
use Rattle.schema.specs.Inserting.{empty_tables}
use Rattle.schema.specs.Plain.{is_null, cells, fits_columns, is_sound_table, sound_tables, is_sound}
use Rattle.dumpplan.specs.Lines.{written, create_line, copy_line, row_line, end_of_rows, rows_line, first_line, last_line, count_lines, table_lines, data_lines, dump_lines, dump_of}
use Rattle.schema.specs.WellFormed.{is_table_after, are_tables_after, is_catalog}
use Rattle.restore.specs.Reading.{Start, Created, Before, Whole, lines_of, step, read_lines}
use Rattle.restore.specs.Progress.{read_in_steps}
use Rattle.restore.proofs.again.Catalog.{table_after, IsFound, IsNamed, named_tables}
use Rattle.restore.proofs.again.Spelling.{Lacks, all_lack, cut_at, create_line_lacks}
use Rattle.restore.proofs.again.Rows.{kinds_fit}
use Rattle.restore.proofs.again.RowLines.{row_lacks, copy_line_lacks, rows_line_lacks}
use Rattle.restore.proofs.again.Lines.{GoesTo, goes_on, goes_through, goes_alike, reads_whole, first_step, created_again, written_key_first}
use Rattle.restore.proofs.again.Tables.{may_stand, tables_go}

-- ---- a text of lines, each ended by a newline, is cut into these lines

lacks : (line : List ℕ) (rest : Bool) → Lacks 10 line → rest ≡ true → (not (list_any (λ b. eqb b 10) line) && rest) ≡ true
lacks line rest h k = and_from (not (list_any (λ b. eqb b 10) line)) rest (not_from_false (list_any (λ b. eqb b 10) line) h) k

lack-append : (xs ys : List (List ℕ)) → all_lack 10 xs ≡ true → all_lack 10 ys ≡ true → all_lack 10 (xs ++ ys) ≡ true
lack-append [] ys h k = k
lack-append (x ∷ xs) ys h k =
    let p = and_parts (not (list_any (λ b. eqb b 10) x)) (all_lack 10 xs) h in
    and_from (not (list_any (λ b. eqb b 10) x)) (all_lack 10 (xs ++ ys)) p.0 (lack-append xs ys p.1 k)

lines_again : (ls : List (List ℕ)) → all_lack 10 ls ≡ true → lines_of (flat_map (λ line. line ++ 10 ∷ []) ls) ≡ ls ++ [] ∷ []
lines_again [] h = refl
lines_again (l ∷ ls) h =
    let p = and_parts (not (list_any (λ b. eqb b 10) l)) (all_lack 10 ls) h in
    ap lines_of (append_assoc l (10 ∷ []) (flat_map (λ line. line ++ 10 ∷ []) ls))
    ∙ cut_at 10 l (flat_map (λ line. line ++ 10 ∷ []) ls) (not-true (list_any (λ b. eqb b 10) l) p.0)
    ∙ ap (λ (rest : List (List ℕ)). l ∷ rest) (lines_again ls p.1)

-- ---- no line holds a newline

first_lacks : (counted : Bool) → Lacks 10 (first_line counted)
first_lacks true = refl
first_lacks false = refl

creates_lack : (c before ds : Catalog) → IsNamed c → are_tables_after before ds ≡ true → all_lack 10 (map (λ d. create_line (written c d)) ds) ≡ true
creates_lack c before [] named h = refl
creates_lack c before (d ∷ ds) named h =
    let p = and_parts (is_table_after before d) (are_tables_after (before ++ d ∷ []) ds) h in
    let facts = table_after before d p.0 in
    lacks (create_line (written c d)) (all_lack 10 (map (λ e. create_line (written c e)) ds)) (create_line_lacks (written c d) facts.name (written_key_first c before d named facts)) (creates_lack c (before ++ d ∷ []) ds named p.1)

counts_lack : (counted : Bool) (n : ℕ) → all_lack 10 (count_lines counted n) ≡ true
counts_lack true n = lacks (rows_line n) true (rows_line_lacks n) refl
counts_lack false n = refl

module _ {A : Type 0} where
  rows_lack : (X : Tables A) (d : TableSchema) (rows : List (Row A)) → list_all (may_stand X d.columns) rows ≡ true → all_lack 10 (map row_line rows) ≡ true
  rows_lack X d [] h = refl
  rows_lack X d (row ∷ rows) h =
      let p = and_parts (may_stand X d.columns row) (list_all (may_stand X d.columns) rows) h in
      let q = and_parts (not (is_null row.0)) (fits_columns X d.columns (cells row)) p.0 in
      lacks (row_line row) (all_lack 10 (map row_line rows)) (row_lacks (map (λ e. e.kind) d.columns) (cells row) (kinds_fit X d.columns (cells row) q.1)) (rows_lack X d rows p.1)

  data_lacks : (counted : Bool) (X : Tables A) (before ds : Catalog) (Ys : Tables A) → are_tables_after before ds ≡ true → sound_tables X ds Ys ≡ true → all_lack 10 (data_lines counted ds Ys) ≡ true
  data_lacks counted X before [] Ys h sound = refl
  data_lacks counted X before (d ∷ ds) [] h sound = absurd (true≢false (sym sound))
  data_lacks counted X before (d ∷ ds) (rows ∷ more) h sound =
      let p = and_parts (is_table_after before d) (are_tables_after (before ++ d ∷ []) ds) h in
      let facts = table_after before d p.0 in
      let q = and_parts (is_sound_table X d rows) (sound_tables X ds more) sound in
      let r = and_parts (is_sorted value_cmp rows) (list_all (may_stand X d.columns) rows) q.0 in
      lack-append (table_lines counted d rows) (data_lines counted ds more)
      (lacks (copy_line d) (all_lack 10 (map row_line rows ++ end_of_rows ∷ count_lines counted (length rows))) (copy_line_lacks d facts.name facts.names)
      (lack-append (map row_line rows) (end_of_rows ∷ count_lines counted (length rows)) (rows_lack X d rows r.1) (counts_lack counted (length rows))))
      (data_lacks counted X (before ++ d ∷ []) ds more p.1 q.1)

  -- ---- the whole dump

  alike : (counted : Bool) (c : Catalog) (d : TableSchema) → step {A = A} (Created counted c) (copy_line d) ≡ step (Before counted c (empty_tables c) 0) (copy_line d)
  unfolding step
  alike counted c d = refl

  alike_at_end : (counted : Bool) (c : Catalog) → step {A = A} (Created counted c) last_line ≡ step (Before counted c (empty_tables c) 0) last_line
  unfolding step
  alike_at_end counted c = refl

  data_goes : (counted : Bool) (c : Catalog) (X : Tables A) → are_tables_after [] c ≡ true → is_sound c X ≡ true → GoesTo (Created counted c) (data_lines counted c X ++ last_line ∷ []) (Whole c X)
  data_goes counted [] [] h sound = goes_alike (Created counted []) (Before counted [] [] 0) (Whole [] []) last_line [] (alike_at_end counted []) (tables_go counted [] [] [] [] [] [] refl refl refl sound h)
  data_goes counted [] (rows ∷ more) h sound = absurd (true≢false (sym sound))
  data_goes counted (d ∷ ds) [] h sound = absurd (true≢false (sym sound))
  data_goes counted (d ∷ ds) (rows ∷ more) h sound =
      goes_alike (Created counted (d ∷ ds)) (Before counted (d ∷ ds) (empty_tables (d ∷ ds)) 0) (Whole (d ∷ ds) (rows ∷ more)) (copy_line d)
      (((map row_line rows ++ end_of_rows ∷ count_lines counted (length rows)) ++ data_lines counted ds more) ++ last_line ∷ []) (alike counted (d ∷ ds) d)
      (tables_go counted (d ∷ ds) [] (d ∷ ds) (rows ∷ more) [] (rows ∷ more) refl refl refl sound h)

  pub dump_again : (counted : Bool) (c : Catalog) (X : Tables A) → is_catalog c ≡ true → is_sound c X ≡ true → read_in_steps (dump_of counted c X) ≡ Ok (c, X)
  dump_again counted c X well sound =
      let p = and_parts (nat_le (length c) 256) (are_tables_after [] c) well in
      let small : length c ≤ 256 = leb-true (length c) 256 p.0 in
      let named = named_tables [] c p.1 in
      let found : IsFound [] = λ t d at. cc in
      let creates : List (List ℕ) = map (λ d. create_line (written c d)) c in
      let tables : List (List ℕ) = data_lines counted c X in
      let lines_lack : all_lack 10 (dump_lines counted c X) ≡ true =
      lacks (first_line counted) (all_lack 10 ((creates ++ tables) ++ last_line ∷ [])) (first_lacks counted)
      (lack-append (creates ++ tables) (last_line ∷ []) (lack-append creates tables (creates_lack c [] c named p.1) (data_lacks counted X [] c X p.1 sound)) refl) in
      let goes : GoesTo Start (dump_lines counted c X) (Whole c X) =
      goes_on Start (Created counted []) (Whole c X) (first_line counted) ((creates ++ tables) ++ last_line ∷ []) (first_step counted)
      (subst (λ (ls : List (List ℕ)). GoesTo (Created counted []) ls (Whole c X)) (sym (append_assoc creates tables (last_line ∷ [])))
      (goes_through (Created counted []) (Created counted c) (Whole c X) creates (tables ++ last_line ∷ []) (created_again counted c [] c refl named small found p.1) (data_goes counted c X p.1 sound))) in
      ap (λ (ls : List (List ℕ)). read_lines 1 Start ls) (lines_again (dump_lines counted c X) lines_lack)
      ∙ reads_whole Start (dump_lines counted c X) c X goes 1

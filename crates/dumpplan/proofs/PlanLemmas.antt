-- The texts of all pieces, one after another, are the dump text.
use Rattle.std.proofs.Common.{◌≡◌, ℕ, zero, suc, ◌+◌, ◌<◌, ◌≤◌, true, List, [], ◌∷◌, ◌++◌, length, drop, map, Option, Some, None, refl, sym, ap, ◌∙◌, append_assoc, arith}
use Rattle.std.specs.Prelude.{slice_index_or}
use Rattle.std.specs.List.{flat_map, AllByRecursion, slice_get}
use Rattle.std.proofs.Math.Seq.{drop-cons}
use Rattle.std.proofs.lemmas.List.{append-nil}
use Rattle.std.proofs.lemmas.List.Concat.{flat_map-append}
use Rattle.std.proofs.lemmas.List.Folds.{flat_map-map}
use Rattle.value.specs.declared.key.Key.{Key}
use Rattle.value.proofs.Basics.{all-append}
use Rattle.schema.specs.Definition.{TableSchema, Catalog}
use Rattle.schema.specs.Plain.{rows_of}
use Rattle.schema.specs.Rows.{IsInKeyOrder}
use Rattle.schema.specs.declared.row.Row.{Row}
use Rattle.dumpplan.specs.declared.piece.Piece.{Piece}
use Rattle.dumpplan.specs.declared.piece.Piece.TheVariants.{Head, Rows, End}
use Rattle.dumpplan.specs.declared.piece.RowsEnd.TheVariants.{Last}
use Rattle.dumpplan.specs.Lines.{written, create_line, copy_line, first_line, last_line, table_lines, data_lines, dump_text}
use Rattle.dumpplan.specs.Parts.{ended, head_text, table_text, end_text}
use Rattle.dumpplan.specs.Pieces.{rows_text, stop_text, piece_text, piece_texts, joined, cuts, ranges, table_pieces, tables_pieces, planned, IsPieceOf}
use Rattle.dumpplan.proofs.TextLemmas.{table_split}
use Rattle.dumpplan.proofs.PieceLemmas.{ranges_text, rows_from-none, Rises-cuts, all_from_start}

-- what holds at each place holds of all
pub all_of_each : {X : Type 0} (P : X → Type 0) (d : X) (xs : List X) → ((k : ℕ) → k < length xs → P (slice_index_or xs k d)) → AllByRecursion P xs
all_of_each P d [] each = tt
all_of_each P d (x ∷ xs) each = (each zero (omega arith), all_of_each P d xs (λ k lt. each (suc k) (omega arith)))

module _ {A : Type 0} where
  -- ---- the text

  -- head, tables, end
  pub dump_parts : (c : Catalog) (X : List (List (Row A))) → (head_text c ++ ended (data_lines true c X)) ++ end_text ≡ dump_text c X
  dump_parts c X =
      ap (λ (t : List ℕ). t ++ end_text) (sym (flat_map-append (λ (line : List ℕ). line ++ 10 ∷ []) (first_line true ∷ map (λ d. create_line (written c d)) c) (data_lines true c X)))
      ∙ sym (flat_map-append (λ (line : List ℕ). line ++ 10 ∷ []) ((first_line true ∷ map (λ d. create_line (written c d)) c) ++ data_lines true c X) (last_line ∷ []))

  table_joined : (c : Catalog) (X : List (List (Row A))) (t most : ℕ) (d : TableSchema) (rows : List (Row A)) → slice_get c t ≡ Some d → rows_of X t ≡ rows → IsInKeyOrder rows → flat_map (piece_text c X) (table_pieces most t rows) ≡ table_text d rows
  table_joined c X t most d rows at has sorted =
      ranges_text c X t (length rows) d rows None (cuts most most rows) at has sorted (Rises-cuts most most None rows sorted (all_from_start (map (λ row. row.0) rows)))
      ∙ ap (λ (rs : List (Row A)). (copy_line d ++ 10 ∷ []) ++ (rows_text rs ++ stop_text {A = A} (Last (length rows)))) (rows_from-none rows)
      ∙ sym (table_split d rows)

  tables_joined : (most : ℕ) (c : Catalog) (X : List (List (Row A))) (t : ℕ) (ds : Catalog) (rest : List (List (Row A))) → ((k : ℕ) → slice_get c (t + k) ≡ slice_get ds k) → ((k : ℕ) → rows_of X (t + k) ≡ rows_of rest k) → length rest ≡ length ds → AllByRecursion IsInKeyOrder rest
      → flat_map (piece_text c X) (tables_pieces most t rest) ≡ ended (data_lines true ds rest)
  tables_joined most c X t [] [] at has same sorted = refl
  tables_joined most c X t [] (rows ∷ more) at has same sorted = absurd (omega arith)
  tables_joined most c X t (d ∷ ds) [] at has same sorted = absurd (omega arith)
  tables_joined most c X t (d ∷ ds) (rows ∷ more) at has same sorted =
      let here : t + 0 ≡ t = omega arith in
      let next : (k : ℕ) → t + 1 + k ≡ t + suc k = λ k. omega arith in
      flat_map-append (piece_text c X) (table_pieces most t rows) (tables_pieces most (t + 1) more)
      ∙ ap (λ (x : List ℕ). x ++ flat_map (piece_text c X) (tables_pieces most (t + 1) more)) (table_joined c X t most d rows (ap (λ (k : ℕ). slice_get c k) (sym here) ∙ at 0) (ap (λ (k : ℕ). rows_of X k) (sym here) ∙ has 0) sorted.0)
      ∙ ap (λ (x : List ℕ). table_text d rows ++ x) (tables_joined most c X (t + 1) ds more (λ k. ap (λ (j : ℕ). slice_get c j) (next k) ∙ at (suc k)) (λ k. ap (λ (j : ℕ). rows_of X j) (next k) ∙ has (suc k)) (omega arith) sorted.1)
      ∙ sym (flat_map-append (λ (line : List ℕ). line ++ 10 ∷ []) (table_lines true d rows) (data_lines true ds more))

  pub plan_text : (most : ℕ) (c : Catalog) (X : List (List (Row A))) → length X ≡ length c → AllByRecursion IsInKeyOrder X → joined (piece_texts c X (planned most X)) ≡ dump_text c X
  plan_text most c X same sorted =
      let from_first : (k : ℕ) → 0 + k ≡ k = λ k. omega arith in
      flat_map-map (λ (t : List ℕ). t) (piece_text c X) (planned most X)
      ∙ flat_map-append (piece_text c X) (Head ∷ tables_pieces most 0 X) (End ∷ [])
      ∙ ap (λ (t : List ℕ). (head_text c ++ flat_map (piece_text c X) (tables_pieces most 0 X)) ++ t) (append-nil end_text)
      ∙ ap (λ (t : List ℕ). (head_text c ++ t) ++ end_text) (tables_joined most c X 0 c X (λ k. ap (λ (j : ℕ). slice_get c j) (from_first k)) (λ k. ap (λ (j : ℕ). rows_of X j) (from_first k)) same sorted)
      ∙ dump_parts c X

  -- ---- each piece is one of the catalog's tables

  known_ranges : (n t count : ℕ) → t < n → (from : Option (Key A)) (keys : List (Key A)) → AllByRecursion (IsPieceOf n) (map Rows (ranges t count from keys))
  known_ranges n t count lt from [] = (lt, tt)
  known_ranges n t count lt from (key ∷ keys) = (lt, known_ranges n t count lt (Some key) keys)

  known_tables : (n most t : ℕ) (X : List (List (Row A))) → t + length X ≤ n → AllByRecursion (IsPieceOf n) (tables_pieces most t X)
  known_tables n most t [] within = tt
  known_tables n most t (rows ∷ more) within =
      all-append (IsPieceOf n) (table_pieces most t rows) (tables_pieces most (t + 1) more) (known_ranges n t (length rows) (omega arith) None (cuts most most rows)) (known_tables n most (t + 1) more (omega arith))

  pub known_plan : (n most : ℕ) (X : List (List (Row A))) → length X ≤ n → AllByRecursion (IsPieceOf n) (planned most X)
  known_plan n most X within = all-append (IsPieceOf n) (Head ∷ tables_pieces most 0 X) (End ∷ []) (tt, known_tables n most 0 X (omega arith)) (tt, tt)

  -- ---- one more table

  pub tables_step : (most place : ℕ) (X : List (List (Row A))) (old new total : List (Piece A)) → place < length X → old ++ tables_pieces most place (drop place X) ≡ total → new ≡ old ++ table_pieces most place (rows_of X place) → new ++ tables_pieces most (place + 1) (drop (place + 1) X) ≡ total
  tables_step most place X old new total lt so_far made =
      let next : place + 1 ≡ suc place = omega arith in
      let more : List (Piece A) = tables_pieces most (place + 1) (drop (suc place) X) in
      ap (λ (k : ℕ). new ++ tables_pieces most (place + 1) (drop k X)) next
      ∙ ap (λ (ps : List (Piece A)). ps ++ more) made
      ∙ append_assoc old (table_pieces most place (rows_of X place)) more
      ∙ ap (λ (xs : List (List (Row A))). old ++ tables_pieces most place xs) (sym (drop-cons X place [] lt))
      ∙ so_far

  dropped : (X : List (List (Row A))) (n : ℕ) → length X ≤ n → drop n X ≡ []
  dropped [] zero past = refl
  dropped [] (suc n) past = refl
  dropped (rows ∷ more) zero past = absurd (omega arith)
  dropped (rows ∷ more) (suc n) past = dropped more n (omega arith)

  -- all tables
  pub planned_whole : (most place : ℕ) (X : List (List (Row A))) (pieces made plan : List (Piece A)) → length X ≤ place → pieces ++ tables_pieces most place (drop place X) ≡ Head ∷ tables_pieces most 0 X → made ≡ pieces ++ End ∷ [] → plan ≡ made → plan ≡ planned most X
  planned_whole most place X pieces made plan past so_far last is =
      is ∙ last ∙ ap (λ (ps : List (Piece A)). ps ++ End ∷ []) (sym (append-nil pieces) ∙ ap (λ (xs : List (List (Row A))). pieces ++ tables_pieces most place xs) (sym (dropped X place past)) ∙ so_far)

-- A row that is put after those of its table.
use Rattle.std.proofs.Common.{◌≡◌, ℕ, ◌==◌, Bool, true, false, cond, not, ◌&&◌, ◌||◌, Bor, List, [], ◌∷◌, length, map, Option, Some, None, is_some, find, slice_set, Result, Ok, Err, IfOk, refl, ap, sym, subst, ◌∙◌, arith}
use Rattle.std.specs.List.{list_any, list_all}
use Rattle.std.specs.FinMap.{find as entry_at}
use Rattle.std.specs.Option.{option_copied, option_map_or}
use Rattle.std.specs.Ordering.{is_le, ordering_reverse}
use Rattle.std.specs.declared.cmp.Ordering.{Ordering}
use Rattle.std.specs.declared.cmp.Ordering.TheVariants.{Less, Equal, Greater}
use Rattle.std.proofs.lemmas.Bool.{and_parts, eqb-true, not-true, or_parts, or_from}
use Rattle.value.specs.declared.kind.Kind.{Kind}
use Rattle.value.specs.declared.refusal.Code.{Code}
use Rattle.value.specs.declared.refusal.Code.TheVariants.{BadCopyFileFormat}
use Rattle.value.specs.declared.value.Value.{Value}
use Rattle.value.specs.declared.value.Value.TheVariants.{Null, Int, Text, Bytes}
use Rattle.value.specs.Order.{value_cmp, value_cmp-total}
use Rattle.schema.specs.Definition.{Column, Catalog, columns_of}
use Rattle.schema.specs.declared.row.Row.{Row}
use Rattle.schema.specs.declared.tables.Tables.{Tables}
use Rattle.schema.specs.Inserting.{are_of_kinds, has_zero_byte, lacks_value, dangles, inserted}
use Rattle.schema.specs.Plain.{is_null, cells, rows_of, row_at, has_kind, is_there, is_sound}
use Rattle.schema.specs.Rows.{Rows, put_row}
use Rattle.copytext.specs.Reading.{cut, content, content_value, field_value, field_values, is_field, is_null_mark, line_values, onto_values}
use Rattle.copytext.specs.RoundTrip.{fit_kinds}
use Rattle.restore.specs.declared.error.LineError.{LineError}
use Rattle.restore.specs.Steps.{◌>>=◌, Gives}
use Rattle.restore.specs.Reading.{kinds_of, with_row}
use Rattle.restore.specs.Rows.{row_of_values, row_of_line, is_behind, IsNext}
use Rattle.schema.proofs.LiteralLemmas.{literal_fits}
use Rattle.restore.proofs.stepwise.Reading.{done_same}
use Rattle.restore.proofs.words.Row.{row_of, with_row_is}
use Rattle.restore.proofs.again.Rows.{kind_is, no_zero, no_fault, inserted_by}
use Rattle.restore.proofs.stepwise.Sound.{bind_ok, row_kept}

-- nothing is found where none is answered
pub none_found : {X : Type 0} (found : Option (Bor X)) (there : Option X) (none : Bool) → option_copied found ≡ there → is_some found ≡ not none → none ≡ not (is_some there)
none_found {X = X} found there none e h = rw (sym e) (go found none h)
  where
    go : (f : Option (Bor X)) (b : Bool) → is_some f ≡ not b → b ≡ not (is_some (option_copied f))
    go None true k = refl
    go None false k = absurd cc
    go (Some x) true k = absurd cc
    go (Some x) false k = refl

or_true : (b : Bool) → not (b || true) ≡ false
or_true true = refl
or_true false = refl

module _ {A : Type 0} where
  -- ---- what a line reads as has the kinds of its columns

  content_fits : (k : Kind) (o : Option (List ℕ)) (v : Value A) → content_value k o ≡ Ok v → has_kind k v ≡ true
  content_fits k None v h = absurd cc
  content_fits k (Some bytes) v h = literal_fits k bytes v h

  field_fits : (k : Kind) (raw : List ℕ) (v : Value A) → field_value k raw ≡ Ok v → has_kind k v ≡ true
  field_fits k raw v h = go (is_null_mark raw) h
    where
      go : (null : Bool) → cond null (Ok Null) (content_value k (content raw)) ≡ Ok v → has_kind k v ≡ true
      go true e = subst (λ (w : Value A). has_kind k w ≡ true) (done_same {E = Code} Null v e) refl
      go false e = content_fits k (content raw) v e

  onto_fits : (k : Kind) (ks : List Kind) (r : Result (Value A) Code) (rs : Result (List (Value A)) Code) (values : List (Value A)) → onto_values r rs ≡ Ok values
      → ((v : Value A) → r ≡ Ok v → has_kind k v ≡ true) → ((vs : List (Value A)) → rs ≡ Ok vs → fit_kinds ks vs ≡ true) → fit_kinds (k ∷ ks) values ≡ true
  onto_fits k ks (Ok v) (Ok vs) values h one more = subst (λ (ws : List (Value A)). fit_kinds (k ∷ ks) ws ≡ true) (done_same {E = Code} (v ∷ vs) values h) (rw (one v refl, more vs refl) refl)
  onto_fits k ks (Ok v) (Err code) values h one more = absurd cc
  onto_fits k ks (Err code) rs values h one more = absurd cc

  fields_fit : (ks : List Kind) (fields : List (List ℕ)) (values : List (Value A)) → length fields ≡ length ks → field_values ks fields ≡ Ok values → fit_kinds ks values ≡ true
  fields_fit [] [] values count h = subst (λ (ws : List (Value A)). fit_kinds [] ws ≡ true) (done_same {E = Code} [] values h) refl
  fields_fit [] (raw ∷ fields) values count h = absurd cc
  fields_fit (k ∷ ks) [] values count h = absurd cc
  fields_fit (k ∷ ks) (raw ∷ fields) values count h =
      onto_fits k ks (field_value k raw) (field_values ks fields) values h (λ v e. field_fits k raw v e) (λ vs e. fields_fit ks fields vs (omega (arith, count)) e)

  line_fits : (ks : List Kind) (text : List ℕ) (values : List (Value A)) → line_values ks text ≡ Ok values → fit_kinds ks values ≡ true
  line_fits ks text values h = go (list_all is_field (cut text)) (length (cut text) == length ks) refl h
    where
      go : (form count : Bool) → (length (cut text) == length ks) ≡ count → cond (form && count) (field_values ks (cut text)) (Err BadCopyFileFormat) ≡ Ok values → fit_kinds ks values ≡ true
      go true true is e = fields_fit ks (cut text) values (eqb-true (length (cut text)) (length ks) is) e
      go true false is e = absurd cc
      go false count is e = absurd cc

  values_of_row : (values : List (Value A)) (row : Row A) → row_of_values values ≡ Ok row → values ≡ cells row
  values_of_row [] row e = absurd cc
  values_of_row (Null ∷ fields) row e = absurd cc
  values_of_row (Int n ∷ fields) row e = ap cells (done_same {E = Code} (row_of (Int n) fields) row e)
  values_of_row (Text x ∷ fields) row e = ap cells (done_same {E = Code} (row_of (Text x) fields) row e)
  values_of_row (Bytes b ∷ fields) row e = ap cells (done_same {E = Code} (row_of (Bytes b) fields) row e)

  pub row_fits : (ks : List Kind) (text : List ℕ) (row : Row A) → row_of_line ks text ≡ Ok row → fit_kinds ks (cells row) ≡ true
  row_fits ks text row h =
      let b = bind_ok (line_values {A = A} ks text) (λ values. row_of_values values) row h in
      subst (λ (vs : List (Value A)). fit_kinds ks vs ≡ true) (values_of_row b.0 row b.2) (line_fits ks text b.0 b.1)

  pub of_their_kinds : (ds : List Column) (vs : List (Value A)) → fit_kinds (map (λ d. d.kind) ds) vs ≡ true → are_of_kinds ds vs ≡ true
  of_their_kinds [] [] h = refl
  of_their_kinds [] (v ∷ vs) h = absurd cc
  of_their_kinds (d ∷ ds) [] h = absurd cc
  of_their_kinds (d ∷ ds) (v ∷ vs) h =
      let p = and_parts (has_kind d.kind v) (fit_kinds (map (λ e. e.kind) ds) vs) h in
      rw (kind_is d.kind v p.0) (of_their_kinds ds vs p.1)

  pub without_zeros : (ks : List Kind) (vs : List (Value A)) → fit_kinds ks vs ≡ true → list_any has_zero_byte vs ≡ false
  without_zeros [] [] h = refl
  without_zeros [] (v ∷ vs) h = absurd cc
  without_zeros (k ∷ ks) [] h = absurd cc
  without_zeros (k ∷ ks) (v ∷ vs) h =
      let p = and_parts (has_kind k v) (fit_kinds ks vs) h in
      or_from (has_zero_byte v) (list_any has_zero_byte vs) (no_zero k v p.0) (without_zeros ks vs p.1)

  -- ---- no references

  is_there_so : (X : Tables A) (o : Option ℕ) (v : Value A) → is_some o ≡ false → not (is_null v || option_map_or (λ t. is_some (row_at X t v)) o true) ≡ false
  is_there_so X None v h = or_true (is_null v)
  is_there_so X (Some u) v h = absurd cc

  pub none_dangles : (X : Tables A) (ds : List Column) (vs : List (Value A)) → list_any (λ d. is_some d.references) ds ≡ false → dangles X ds vs ≡ false
  none_dangles X [] [] h = refl
  none_dangles X [] (v ∷ vs) h = refl
  none_dangles X (d ∷ ds) [] h = refl
  none_dangles X (d ∷ ds) (v ∷ vs) h =
      let p = or_parts (is_some d.references) (list_any (λ e. is_some e.references) ds) h in
      or_from (not (is_there X d v)) (dangles X ds vs) (is_there_so X d.references v p.0) (none_dangles X ds vs p.1)

  -- ---- a key after those of a table

  behind-first : (k : Value A) (row : Row A) (rows : Rows A) → is_behind (row ∷ rows) k ≡ true → (value_cmp k row.0 ≡ Greater) × (is_behind rows k ≡ true)
  behind-first k row rows h = go (value_cmp k row.0) refl h
    where
      go : (o : Ordering) → value_cmp k row.0 ≡ o → not (is_some (cond (is_le o) (Some row) (find (λ x. is_le (value_cmp k x.0)) rows))) ≡ true → (value_cmp k row.0 ≡ Greater) × (is_behind rows k ≡ true)
      go Less is e = absurd cc
      go Equal is e = absurd cc
      go Greater is e = (is, e)

  behind-more : (k : Value A) (row : Row A) (rows : Rows A) → value_cmp k row.0 ≡ Greater → is_behind rows k ≡ true → is_behind (row ∷ rows) k ≡ true
  behind-more k row rows above h = rw above h

  -- isn't there yet
  absent : (k : Value A) (rows : Rows A) → is_behind rows k ≡ true → entry_at value_cmp k rows ≡ None
  absent k [] h = refl
  absent k (row ∷ rows) h = let p = behind-first k row rows h in rw p.0 (absent k rows p.1)

  turned : (k l : Value A) → value_cmp k l ≡ Less → value_cmp l k ≡ Greater
  turned k l less = value_cmp-total.antisymm l k ∙ ap ordering_reverse less

  -- where a row is put at the end of a table, a key after it comes after the whole table
  pub still_behind : (rows : Rows A) (row : Row A) (l : Value A) → is_behind rows row.0 ≡ true → value_cmp row.0 l ≡ Less → is_behind (put_row rows row) l ≡ true
  still_behind [] row l h less = behind-more l row [] (turned row.0 l less) refl
  still_behind (first ∷ rows) row l h less =
      let p = behind-first row.0 first rows h in
      let below : value_cmp first.0 row.0 ≡ Less = value_cmp-total.antisymm first.0 row.0 ∙ ap ordering_reverse p.0 in
      rw p.0 (behind-more l first (put_row rows row) (turned first.0 l (value_cmp-total.trans first.0 row.0 l below less)) (still_behind rows row l p.1 less))

  -- ---- the row of a line, put after its table

  pub put_is : (c : Catalog) (X : Tables A) (t : ℕ) (text : List ℕ) (row : Row A) → row_of_line (kinds_of c t) text ≡ Ok row → IsNext X (columns_of c t) (rows_of X t) row
      → with_row c X t text ≡ Ok (slice_set X t (put_row (rows_of X t) row))
  put_is c X t text row is next =
      let fits = row_fits (kinds_of c t) text row is in
      let free = and_parts (not (dangles X (columns_of c t) (cells row))) (not (lacks_value (columns_of c t) (cells row))) next.0 in
      with_row_is c X t text ∙ ap (λ (r : Result (Row A) Code). r >>= λ x. inserted c X t x) is
      ∙ inserted_by c X t row (no_fault c X t row (columns_of c t) refl (of_their_kinds (columns_of c t) (cells row) fits) (without_zeros (kinds_of c t) (cells row) fits) (not-true (lacks_value (columns_of c t) (cells row)) free.1)
      (absent row.0 (rows_of X t) next.1) (not-true (dangles X (columns_of c t) (cells row)) free.0))

  -- and sound tables stay sound
  pub put_sound : (c : Catalog) (X Y : Tables A) (t : ℕ) (text : List ℕ) → length X ≡ length c → is_sound c X ≡ true → with_row c X t text ≡ Ok Y → is_sound c Y ≡ true
  put_sound c X Y t text count sound h = (row_kept c X Y t text (record { count = count; sound = sound }) h).sound

  pub put_gives : (c : Catalog) (X Y : Tables A) (t : ℕ) (text : List ℕ) (read : Result (Row A) LineError) (row : Row A) → read ≡ Ok row → Y ≡ slice_set X t (put_row (rows_of X t) row)
      → IfOk read (λ r. IsNext X (columns_of c t) (rows_of X t) r) → Gives (λ r. r) read (row_of_line (kinds_of c t) text) → with_row c X t text ≡ Ok Y
  put_gives c X Y t text read row was made next given =
      let is : row_of_line (kinds_of c t) text ≡ Ok row = subst (λ (r : Result (Row A) LineError). Gives (λ x. x) r (row_of_line (kinds_of c t) text)) was given in
      let free : IsNext X (columns_of c t) (rows_of X t) row = subst (λ (r : Result (Row A) LineError). IfOk r (λ x. IsNext X (columns_of c t) (rows_of X t) x)) was next in
      put_is c X t text row is free ∙ ap (λ (Z : Tables A). Ok Z) (sym made)

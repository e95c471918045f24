-- The line of a row: it isn't the line that ends rows, and holds no newline. Nor does any other line of a dump.
use Rattle.std.proofs.Common.{◌≡◌, ℕ, zero, suc, ◌+◌, ◌<◌, Bool, true, false, true≢false, inl, inr, not, eqb, ◌&&◌, List, [], ◌∷◌, ◌++◌, map, refl, sym, ap, subst, ◌∙◌, arith}
use Rattle.std.specs.Prelude.{codes}
use Rattle.std.specs.Int.Digits.{digits_of}
use Rattle.std.specs.List.{list_any, list_all, AllByRecursion}
use Rattle.std.specs.Str.{bytes_eq}
use Rattle.std.proofs.lemmas.Bool.{and_parts, and_from, or_parts, or_from, not_from_false}
use Rattle.std.proofs.lemmas.Bool.Decides.{nat_tests}
use Rattle.std.proofs.lemmas.Grind.{common_steps}
use Rattle.std.proofs.lemmas.List.{append-nil}
use Rattle.std.proofs.lemmas.Slice.Eq.{bytes_eq-Decides}
use Rattle.std.proofs.lemmas.Int.Digits.{all_below_base_digits_of}
use Rattle.value.specs.declared.kind.Kind.{Kind}
use Rattle.value.specs.declared.value.Value.{Value}
use Rattle.schema.specs.Definition.{Column, TableSchema}
use Rattle.schema.specs.Names.{is_name}
use Rattle.schema.specs.Plain.{has_kind}
use Rattle.copytext.specs.Writing.{escaped, field_text, line_text}
use Rattle.copytext.specs.Reading.{is_break}
use Rattle.copytext.specs.RoundTrip.{fit_kinds}
use Rattle.copytext.proofs.EscapedLemmas.{written, escaped_plain, escaped_letter, no_break-escaped}
use Rattle.copytext.proofs.RoundTrip.{IsText, field_is}
use Rattle.dumpplan.specs.Lines.{comma_separated, copy_line, end_of_rows, number_text, rows_line}
use Rattle.restore.proofs.again.Spelling.{Lacks, lacks-append, all_lack, joined_lacks, name_lacks}

-- ---- the line that ends rows

abbrev starts_dot : List ℕ → Bool
starts_dot [] = false
starts_dot (a ∷ []) = false
starts_dot (a ∷ b ∷ rest) = eqb a 92 && eqb b 46

plain_start : (b : ℕ) (rest : List ℕ) → eqb b 92 ≡ false → starts_dot (b ∷ rest) ≡ false
plain_start b [] h = refl
plain_start b (c ∷ rest) h = rw h refl

no_dot-escaped : (bytes tail : List ℕ) → starts_dot tail ≡ false → starts_dot (escaped bytes ++ tail) ≡ false
no_dot-escaped [] tail h = h
no_dot-escaped (b ∷ bytes) tail h =
    elim (written b) [
      | inl p ↦ ap (λ (text : List ℕ). starts_dot (text ++ tail)) (escaped_plain b bytes p) ∙ plain_start b (escaped bytes ++ tail) p.no_backslash
      | inr w ↦ ap (λ (text : List ℕ). starts_dot (text ++ tail)) (escaped_letter b w.0 bytes w.1) ∙ w.1.no_dot
    ]

isnt_end : (line : List ℕ) → starts_dot line ≡ false → bytes_eq line end_of_rows ≡ false
isnt_end line h = by_test (bytes_eq line end_of_rows) refl
  where
    by_test : (b : Bool) → bytes_eq line end_of_rows ≡ b → b ≡ false
    by_test true e = absurd (true≢false (sym (ap starts_dot ((bytes_eq-Decides line end_of_rows).0 e)) ∙ h))
    by_test false e = refl

module _ {A : Type 0} where
  no_dot-field : (kind : Kind) (v : Value A) (text tail : List ℕ) → IsText kind v text → starts_dot tail ≡ false → starts_dot (text ++ tail) ≡ false
  no_dot-field kind v text tail (inl null) h = ap (λ (t : List ℕ). starts_dot (t ++ tail)) null.0
  no_dot-field kind v text tail (inr w) h = ap (λ (t : List ℕ). starts_dot (t ++ tail)) w.1 ∙ no_dot-escaped w.0 tail h

  no_dot-line : (kind : Kind) (v : Value A) (vs : List (Value A)) → has_kind kind v ≡ true → starts_dot (line_text (v ∷ vs)) ≡ false
  no_dot-line kind v [] h = ap starts_dot (sym (append-nil (field_text v))) ∙ no_dot-field kind v (field_text v) [] (field_is kind v h) refl
  no_dot-line kind v (w ∷ ws) h = no_dot-field kind v (field_text v) (9 ∷ line_text (w ∷ ws)) (field_is kind v h) (plain_start 9 (line_text (w ∷ ws)) refl)

  -- the line of a row doesn't end the rows
  pub row_isnt_end : (kind : Kind) (v : Value A) (vs : List (Value A)) → has_kind kind v ≡ true → bytes_eq (line_text (v ∷ vs)) end_of_rows ≡ false
  row_isnt_end kind v vs h = isnt_end (line_text (v ∷ vs)) (no_dot-line kind v vs h)

-- ---- no newline in a row

no_newline : (text : List ℕ) → list_any is_break text ≡ false → Lacks 10 text
no_newline [] h = refl
no_newline (b ∷ text) h =
    let p = or_parts (is_break b) (list_any is_break text) h in
    or_from (eqb b 10) (list_any (λ x. eqb x 10) text) (or_parts (eqb b 10) (eqb b 13) p.0).0 (no_newline text p.1)

module _ {A : Type 0} where
  field_lacks : (kind : Kind) (v : Value A) (text : List ℕ) → IsText kind v text → Lacks 10 text
  field_lacks kind v text (inl null) = ap (list_any (λ b. eqb b 10)) null.0
  field_lacks kind v text (inr w) = subst (Lacks 10) (sym w.1) (no_newline (escaped w.0) (no_break-escaped w.0))

  pub row_lacks : (kinds : List Kind) (vs : List (Value A)) → fit_kinds kinds vs ≡ true → Lacks 10 (line_text vs)
  row_lacks [] [] h = refl
  row_lacks [] (v ∷ vs) h = absurd cc
  row_lacks (k ∷ kinds) [] h = refl
  row_lacks (k ∷ kinds) (v ∷ []) h = field_lacks k v (field_text v) (field_is k v (and_parts (has_kind k v) (fit_kinds kinds []) h).0)
  row_lacks (k ∷ kinds) (v ∷ w ∷ ws) h =
      let p = and_parts (has_kind k v) (fit_kinds kinds (w ∷ ws)) h in
      lacks-append 10 (field_text v) (9 ∷ line_text (w ∷ ws)) (field_lacks k v (field_text v) (field_is k v p.0)) (row_lacks kinds (w ∷ ws) p.1)

-- ---- or_from in the other lines

names_lack : (ds : List Column) → list_all (λ d. is_name d.name) ds ≡ true → all_lack 10 (map (λ t. 32 ∷ t) (map (λ d. d.name) ds)) ≡ true
names_lack [] h = refl
names_lack (d ∷ ds) h =
    let p = and_parts (is_name d.name) (list_all (λ e. is_name e.name) ds) h in
    and_from (not (list_any (λ b. eqb b 10) d.name)) (all_lack 10 (map (λ t. 32 ∷ t) (map (λ e. e.name) ds))) (not_from_false (list_any (λ b. eqb b 10) d.name) (name_lacks 10 refl d.name p.0)) (names_lack ds p.1)

columns_lack : (ds : List Column) → list_all (λ d. is_name d.name) ds ≡ true → Lacks 10 (comma_separated (map (λ d. d.name) ds))
columns_lack [] h = refl
columns_lack (d ∷ ds) h =
    let p = and_parts (is_name d.name) (list_all (λ e. is_name e.name) ds) h in
    joined_lacks 10 44 d.name (map (λ t. 32 ∷ t) (map (λ e. e.name) ds)) refl (name_lacks 10 refl d.name p.0) (names_lack ds p.1)

pub copy_line_lacks : (d : TableSchema) → is_name d.name ≡ true → list_all (λ e. is_name e.name) d.columns ≡ true → Lacks 10 (copy_line d)
copy_line_lacks d h k =
    lacks-append 10 (codes "COPY " ++ d.name ++ codes " (" ++ comma_separated (map (λ c. c.name) d.columns)) (codes ") FROM stdin;")
    (lacks-append 10 (codes "COPY " ++ d.name ++ codes " (") (comma_separated (map (λ c. c.name) d.columns))
    (lacks-append 10 (codes "COPY " ++ d.name) (codes " (") (lacks-append 10 (codes "COPY ") d.name refl (name_lacks 10 refl d.name h)) refl)
    (columns_lack d.columns k)) refl

glyphs_lack : (ds : List ℕ) → AllByRecursion (λ d. d < 10) ds → Lacks 10 (map (λ d. 48 + d) ds)
glyphs_lack [] h = refl
glyphs_lack (d ∷ ds) h =
    let digit : eqb (48 + d) 10 ≡ false = grind (arith, nat_tests, common_steps) in
    or_from (eqb (48 + d) 10) (list_any (λ b. eqb b 10) (map (λ e. 48 + e) ds)) digit (glyphs_lack ds h.1)

number_lacks : (n : ℕ) → Lacks 10 (number_text n)
number_lacks zero = refl
number_lacks (suc n) = glyphs_lack (digits_of 10 (suc n)) (all_below_base_digits_of 10 (suc n) (omega arith))

pub rows_line_lacks : (n : ℕ) → Lacks 10 (rows_line n)
rows_line_lacks n = lacks-append 10 (codes "-- rows ") (number_text n) refl (number_lacks n)

-- Escaped bytes: they are cut nowhere, hold no break, and stand for the bytes.
use Rattle.std.proofs.Common.{◌≡◌, ◌⊎◌, ℕ, zero, suc, ◌+◌, ◌<◌, true, false, cond, ◌&&◌, ◌||◌, not, eqb, List, [], ◌∷◌, ◌++◌, length, drop, Option, Some, None, inl, inr, refl, sym, ap, subst, ◌∙◌, append_assoc}
use Rattle.std.specs.Option.{option_map, is_some}
use Rattle.std.specs.List.{flat_map, list_any}
use Rattle.std.proofs.lemmas.Bool.{eqb-true, cases_Bool}
use Rattle.copytext.specs.Writing.{letter_of, by_letter, escaped}
use Rattle.copytext.specs.Reading.{onto_first, cut_after, escape, content, is_break, is_field, is_null_mark}
use Rattle.copytext.proofs.FieldLemmas.{behind, behind_nothing, content_plain, content_escape}

-- a byte that is written as itself
pub record IsPlain (b : ℕ) : Type 0 where
  pub letter : letter_of b ≡ None
  pub no_tab : eqb b 9 ≡ false
  pub no_newline : eqb b 10 ≡ false
  pub no_return : eqb b 13 ≡ false
  pub no_backslash : eqb b 92 ≡ false

-- a byte that is written by a letter
pub record HasLetter (b l : ℕ) : Type 0 where
  pub letter : letter_of b ≡ Some l
  pub back : (rest : List ℕ) → escape (l ∷ rest) ≡ Some (b, 1)
  pub no_null : eqb l 78 ≡ false
  pub no_dot : eqb l 46 ≡ false
  pub no_newline : eqb l 10 ≡ false
  pub no_return : eqb l 13 ≡ false

abbrev pub Written : ℕ → Type 0
Written b = IsPlain b ⊎ ((l : ℕ) × HasLetter b l)

abbrev lettered : (b l : ℕ) → HasLetter b l → Written b
lettered b l h = inr (l, h)

at_byte : (b m : ℕ) → eqb b m ≡ true → Written m → Written b
at_byte b m e w = subst Written (sym (eqb-true b m e)) w

pub written : (b : ℕ) → Written b
written b =
    elim (cases_Bool (eqb b 8)) [
      | inl e ↦ at_byte b 8 e (lettered 8 98 record { letter = refl; back = λ rest. refl; no_null = refl; no_dot = refl; no_newline = refl; no_return = refl })
      | inr n8 ↦ elim (cases_Bool (eqb b 9)) [
        | inl e ↦ at_byte b 9 e (lettered 9 116 record { letter = refl; back = λ rest. refl; no_null = refl; no_dot = refl; no_newline = refl; no_return = refl })
        | inr n9 ↦ elim (cases_Bool (eqb b 10)) [
          | inl e ↦ at_byte b 10 e (lettered 10 110 record { letter = refl; back = λ rest. refl; no_null = refl; no_dot = refl; no_newline = refl; no_return = refl })
          | inr n10 ↦ elim (cases_Bool (eqb b 11)) [
            | inl e ↦ at_byte b 11 e (lettered 11 118 record { letter = refl; back = λ rest. refl; no_null = refl; no_dot = refl; no_newline = refl; no_return = refl })
            | inr n11 ↦ elim (cases_Bool (eqb b 12)) [
              | inl e ↦ at_byte b 12 e (lettered 12 102 record { letter = refl; back = λ rest. refl; no_null = refl; no_dot = refl; no_newline = refl; no_return = refl })
              | inr n12 ↦ elim (cases_Bool (eqb b 13)) [
                | inl e ↦ at_byte b 13 e (lettered 13 114 record { letter = refl; back = λ rest. refl; no_null = refl; no_dot = refl; no_newline = refl; no_return = refl })
                | inr n13 ↦ elim (cases_Bool (eqb b 92)) [
                  | inl e ↦ at_byte b 92 e (lettered 92 92 record { letter = refl; back = λ rest. refl; no_null = refl; no_dot = refl; no_newline = refl; no_return = refl })
                  | inr n92 ↦ inl record { letter = rw (n8, n9, n10, n11, n12, n13, n92) refl; no_tab = n9; no_newline = n10; no_return = n13; no_backslash = n92 }
                ]
              ]
            ]
          ]
        ]
      ]
    ]

pub escaped_plain : (b : ℕ) (bytes : List ℕ) → IsPlain b → escaped (b ∷ bytes) ≡ b ∷ escaped bytes
escaped_plain b bytes p = rw p.letter refl

pub escaped_letter : (b l : ℕ) (bytes : List ℕ) → HasLetter b l → escaped (b ∷ bytes) ≡ 92 ∷ l ∷ escaped bytes
escaped_letter b l bytes p = rw p.letter refl

-- ---- they stand for the bytes

pub content-escaped : (bytes : List ℕ) → content (escaped bytes) ≡ Some bytes
content-escaped [] = refl
content-escaped (b ∷ bytes) =
    let more = content-escaped bytes in
    elim (written b) [
      | inl p ↦ ap content (escaped_plain b bytes p) ∙ content_plain b (escaped bytes) p.no_backslash ∙ ap (option_map (λ (x : List ℕ). b ∷ x)) more
      | inr w ↦ ap content (escaped_letter b w.0 bytes w.1) ∙ content_escape 92 (w.0 ∷ escaped bytes) b 1 refl (sym (w.1.back (escaped bytes))) ∙ ap (option_map (λ (x : List ℕ). b ∷ x)) more
    ]

-- ---- no break

pub no_break-escaped : (bytes : List ℕ) → list_any is_break (escaped bytes) ≡ false
no_break-escaped [] = refl
no_break-escaped (b ∷ bytes) =
    let more = no_break-escaped bytes in
    elim (written b) [
      | inl p ↦ rw (escaped_plain b bytes p, p.no_newline, p.no_return) more
      | inr w ↦ rw (escaped_letter b w.0 bytes w.1, w.1.no_newline, w.1.no_return) more
    ]

-- ---- not the mark of a null

starts_plain : (b : ℕ) (rest : List ℕ) → eqb b 92 ≡ false → is_null_mark (b ∷ rest) ≡ false
starts_plain b [] h = refl
starts_plain b (c ∷ []) h = rw h refl
starts_plain b (c ∷ d ∷ rest) h = refl

starts_letter : (l : ℕ) (rest : List ℕ) → eqb l 78 ≡ false → is_null_mark (92 ∷ l ∷ rest) ≡ false
starts_letter l [] h = h
starts_letter l (c ∷ rest) h = refl

pub no_null-escaped : (bytes : List ℕ) → is_null_mark (escaped bytes) ≡ false
no_null-escaped [] = refl
no_null-escaped (b ∷ bytes) =
    elim (written b) [
      | inl p ↦ ap is_null_mark (escaped_plain b bytes p) ∙ starts_plain b (escaped bytes) p.no_backslash
      | inr w ↦ ap is_null_mark (escaped_letter b w.0 bytes w.1) ∙ starts_letter w.0 (escaped bytes) w.1.no_null
    ]

-- ---- cut nowhere

-- a text that isn't cut itself: only what follows it is
abbrev pub IsUncut : List ℕ → Type 0
IsUncut text = (tail : List ℕ) → cut_after false (text ++ tail) ≡ behind text (cut_after false tail)

pub onto_behind : (b : ℕ) (text : List ℕ) (fields : List (List ℕ)) → onto_first b (behind text fields) ≡ behind (b ∷ text) fields
onto_behind b text [] = refl
onto_behind b text (field ∷ fields) = refl

no_text : (tail : List ℕ) → cut_after false tail ≡ behind [] (cut_after false tail)
no_text tail = behind_nothing false tail

one_plain : (b : ℕ) (rest : List ℕ) → eqb b 9 ≡ false → eqb b 92 ≡ false → cut_after false (b ∷ rest) ≡ onto_first b (cut_after false rest)
one_plain b rest tab backslash = rw (tab, backslash) refl

pub uncut-escaped : (bytes : List ℕ) → IsUncut (escaped bytes)
uncut-escaped [] tail = no_text tail
uncut-escaped (b ∷ bytes) tail =
    let more = uncut-escaped bytes tail in
    elim (written b) [
      | inl p ↦ subst (λ (text : List ℕ). cut_after false (text ++ tail) ≡ behind text (cut_after false tail)) (sym (escaped_plain b bytes p))
          (one_plain b (escaped bytes ++ tail) p.no_tab p.no_backslash ∙ ap (onto_first b) more ∙ onto_behind b (escaped bytes) (cut_after false tail))
      | inr w ↦ subst (λ (text : List ℕ). cut_after false (text ++ tail) ≡ behind text (cut_after false tail)) (sym (escaped_letter b w.0 bytes w.1))
          (ap (λ (fields : List (List ℕ)). onto_first 92 (onto_first w.0 fields)) more
          ∙ ap (onto_first 92) (onto_behind w.0 (escaped bytes) (cut_after false tail))
          ∙ onto_behind 92 (w.0 ∷ escaped bytes) (cut_after false tail))
    ]

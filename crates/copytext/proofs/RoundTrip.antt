-- What is written of values of their kinds reads as these values.
use Rattle.std.proofs.Common.{◌≡◌, ◌⊎◌, ℕ, zero, suc, ◌+◌, ◌-◌, ◌^◌, ◌<◌, ◌≤◌, ℤ, pos, negsuc, Bool, true, false, cond, ◌&&◌, ◌||◌, not, eqb, ltb, List, [], ◌∷◌, ◌++◌, length, get_or, map, Option, Some, None, Result, Ok, Err, inl, inr, refl, sym, ap, subst, ◌∙◌, arith}
use Rattle.std.specs.Prelude.{codes}
use Rattle.std.specs.Char.{is_ascii_digit}
use Rattle.std.specs.Fmt.{decimal, signed_decimal}
use Rattle.std.specs.List.{flat_map, list_all, list_any}
use Rattle.std.specs.Str.Parse.{starts_with_minus, without_leading_sign, digits_value}
use Rattle.std.proofs.Common.{leb}
use Rattle.std.proofs.lemmas.Bool.{and_parts, and_from, ltb-true, leb-true, lt-ltb, le-leb, eq-eqb}
use Rattle.std.proofs.lemmas.Bool.Decides.{nat_tests}
use Rattle.std.proofs.lemmas.Fmt.{digits_decimal, digits_value-decimal, decimal_nonempty}
use Rattle.std.proofs.lemmas.Grind.{common_steps}
use Rattle.std.proofs.lemmas.Int.{ints}
use Rattle.std.proofs.lemmas.List.{append-nil}
use Rattle.hex.specs.Hex.{IsBytes, encode_lower}
use Rattle.hex.proofs.HexLemmas.{decode_of-encode_lower}
use Rattle.value.specs.declared.kind.Kind.{Kind}
use Rattle.value.specs.declared.kind.Kind.TheVariants as kind
use Rattle.value.specs.declared.refusal.Code.{Code}
use Rattle.value.specs.declared.refusal.Code.TheVariants.{NumericValueOutOfRange, InvalidTextRepresentation, BadCopyFileFormat}
use Rattle.value.specs.Printed.{bytea_text}
use Rattle.std.specs.Str.{is_utf8}
use Rattle.value.specs.declared.value.Value.{Value}
use Rattle.value.specs.declared.value.Value.TheVariants.{Null, Int, Text, Bytes}
use Rattle.value.specs.Literal.{signed_number, bigint_of, text_of, decoded, bytea_of, as_int, as_text, as_bytes, literal_of}
use Rattle.value.proofs.LiteralLemmas.{numerals}
use Rattle.schema.specs.Plain.{in_range, has_kind}
use Rattle.copytext.specs.Writing.{tab, escaped, field_text, line_text}
use Rattle.copytext.specs.Reading.{onto_first, cut, cut_after, content, is_break, is_field, is_null_mark, field_value, onto_values, field_values, line_values}
use Rattle.copytext.specs.RoundTrip.{fit_kinds}
use Rattle.copytext.proofs.FieldLemmas.{behind, behind_nothing}
use Rattle.copytext.proofs.WritingLemmas.{is_plain, escaped-plain, join_cons}
use Rattle.copytext.proofs.EscapedLemmas.{content-escaped, no_break-escaped, no_null-escaped, IsUncut, uncut-escaped, onto_behind}

-- ---- numbers

no_sign : (ds : List ℕ) → list_all is_ascii_digit ds ≡ true → (starts_with_minus ds ≡ false) × (without_leading_sign ds ≡ ds)
no_sign [] h = (refl, refl)
no_sign (d ∷ ds) h =
    let minus : eqb d 45 ≡ false = grind (arith, nat_tests, common_steps) in
    let plus : eqb d 43 ≡ false = grind (arith, nat_tests, common_steps) in
    (minus, rw (minus, plus) refl)

-- a numeral of right form, with a sign before it or none
number_of : (text digits : List ℕ) (sign : Bool) (n : ℕ) → without_leading_sign text ≡ digits → starts_with_minus text ≡ sign → list_all is_ascii_digit digits ≡ true → ltb 0 (length digits) ≡ true
    → digits_value 10 digits ≡ n → bigint_of text ≡ signed_number sign n
number_of text digits sign n after minus form some value =
    subst (λ (ds : List ℕ). cond (ltb 0 (length ds) && list_all is_ascii_digit ds) (signed_number (starts_with_minus text) (digits_value 10 ds)) (Err InvalidTextRepresentation) ≡ signed_number sign n) (sym after)
    (rw (some, form) (ap (λ (s : Bool). signed_number s (digits_value 10 digits)) minus ∙ ap (signed_number sign) value))

decimal_form : (n : ℕ) → n < 2 ^ 64 → list_all is_ascii_digit (decimal n) ≡ true
decimal_form n lt = digits_decimal numerals n lt

decimal_some : (n : ℕ) → n < 2 ^ 64 → ltb 0 (length (decimal n)) ≡ true
decimal_some n lt = lt-ltb 0 (length (decimal n)) (decimal_nonempty n lt)

positive : (n : ℕ) → n < 2 ^ 63 → bigint_of (decimal n) ≡ Ok (pos n)
positive n lt =
    let wide : n < 2 ^ 64 = omega arith in
    let sign = no_sign (decimal n) (decimal_form n wide) in
    number_of (decimal n) (decimal n) false n sign.1 sign.0 (decimal_form n wide) (decimal_some n wide) (digits_value-decimal numerals n wide)
    ∙ ap (λ (t : Bool). cond t (Ok (pos n)) (Err NumericValueOutOfRange)) (lt-ltb n (2 ^ 63) lt)

negative : (m : ℕ) → m < 2 ^ 63 → bigint_of (45 ∷ decimal (suc m)) ≡ Ok (negsuc m)
negative m lt =
    let wide : suc m < 2 ^ 64 = omega arith in
    number_of (45 ∷ decimal (suc m)) (decimal (suc m)) true (suc m) refl refl (decimal_form (suc m) wide) (decimal_some (suc m) wide) (digits_value-decimal numerals (suc m) wide)
    ∙ ap (λ (t : Bool). cond t (Ok (negsuc m)) (Err NumericValueOutOfRange)) (le-leb (suc m) (2 ^ 63) (omega arith))

below : (m : ℕ) → in_range (negsuc m) ≡ true → m < 2 ^ 63
below m h = let le : m ≤ 2 ^ 63 - 1 = leb-true m (2 ^ 63 - 1) (and_parts (leb m (2 ^ 63 - 1)) true h).0 in omega arith

bigint_again : (n : ℤ) → in_range n ≡ true → bigint_of (signed_decimal n) ≡ Ok n
bigint_again (pos n) h = positive n (omega (arith, ints))
bigint_again (negsuc m) h = negative m (below m h)

plain_digits : (ds : List ℕ) → list_all is_ascii_digit ds ≡ true → list_all is_plain ds ≡ true
plain_digits [] h = refl
plain_digits (d ∷ ds) h =
    let first : is_plain d ≡ true = grind (arith, nat_tests, common_steps) in
    rw first (plain_digits ds (and_parts (is_ascii_digit d) (list_all is_ascii_digit ds) h).1)

number_escaped : (n : ℤ) → in_range n ≡ true → escaped (signed_decimal n) ≡ signed_decimal n
number_escaped (pos n) h = escaped-plain (decimal n) (plain_digits (decimal n) (decimal_form n (omega (arith, ints))))
number_escaped (negsuc m) h = let lt : m < 2 ^ 63 = below m h in escaped-plain (45 ∷ decimal (suc m)) (plain_digits (decimal (suc m)) (decimal_form (suc m) (omega arith)))

-- ---- byteas

all_bytes : (bytes : List ℕ) → list_all (λ b. ltb b 256) bytes ≡ true → IsBytes bytes
all_bytes [] h i = omega arith
all_bytes (b ∷ bytes) h zero = ltb-true b 256 (and_parts (ltb b 256) (list_all (λ x. ltb x 256) bytes) h).0
all_bytes (b ∷ bytes) h (suc i) = all_bytes bytes (and_parts (ltb b 256) (list_all (λ x. ltb x 256) bytes) h).1 i

bytea_again : (bytes : List ℕ) → list_all (λ b. ltb b 256) bytes ≡ true → bytea_of (bytea_text bytes) ≡ Ok bytes
bytea_again bytes h = ap decoded (decode_of-encode_lower bytes (all_bytes bytes h))

-- ---- one field

text_again : (t : List ℕ) → (is_utf8 t && not (list_any (λ b. eqb b 0) t)) ≡ true → text_of t ≡ Ok t
text_again t h = rw h refl

null_uncut : IsUncut (92 ∷ 78 ∷ [])
null_uncut tail = ap (onto_first 92) (ap (onto_first 78) (behind_nothing false tail) ∙ onto_behind 78 [] (cut_after false tail)) ∙ onto_behind 92 (78 ∷ []) (cut_after false tail)

escaped_field : (bytes : List ℕ) → is_field (escaped bytes) ≡ true
escaped_field bytes = rw (no_break-escaped bytes, content-escaped bytes) refl

module _ {A : Type 0} where
  -- the literal that a value's text stands for
  abbrev literal_text : Value A → List ℕ
  literal_text Null = []
  literal_text (Int n) = signed_decimal n
  literal_text (Text t) = t
  literal_text (Bytes b) = bytea_text b

  -- what a field's text is: the mark of a null, or escaped bytes that stand for the value
  abbrev pub IsText : Kind → Value A → List ℕ → Type 0
  IsText kind v text = ((text ≡ 92 ∷ 78 ∷ []) × (v ≡ Null)) ⊎ ((bytes : List ℕ) × (text ≡ escaped bytes) × (literal_of kind bytes ≡ Ok v))

  pub field_is : (kind : Kind) (v : Value A) → has_kind kind v ≡ true → IsText kind v (field_text v)
  field_is kind Null h = inl (refl, refl)
  field_is kind.Bigint (Int n) h = inr (signed_decimal n, sym (number_escaped n h), ap as_int (bigint_again n h))
  field_is kind.Bigint (Text t) h = absurd cc
  field_is kind.Bigint (Bytes b) h = absurd cc
  field_is kind.Text (Int n) h = absurd cc
  field_is kind.Text (Text t) h = inr (t, refl, ap as_text (text_again t h))
  field_is kind.Text (Bytes b) h = absurd cc
  field_is kind.Bytea (Int n) h = absurd cc
  field_is kind.Bytea (Text t) h = absurd cc
  field_is kind.Bytea (Bytes b) h = inr (bytea_text b, refl, ap as_bytes (bytea_again b h))

  field_uncut : (kind : Kind) (v : Value A) (text : List ℕ) → IsText kind v text → IsUncut text
  field_uncut kind v text (inl null) = subst IsUncut (sym null.0) null_uncut
  field_uncut kind v text (inr w) = subst IsUncut (sym w.1) (uncut-escaped w.0)

  is_field_text : (kind : Kind) (v : Value A) (text : List ℕ) → IsText kind v text → is_field text ≡ true
  is_field_text kind v text (inl null) = ap is_field null.0
  is_field_text kind v text (inr w) = ap is_field w.1 ∙ escaped_field w.0

  escaped_value : (kind : Kind) (bytes : List ℕ) → field_value {A = A} kind (escaped bytes) ≡ literal_of kind bytes
  escaped_value kind bytes = rw (no_null-escaped bytes, content-escaped bytes) refl

  value_again : (kind : Kind) (v : Value A) (text : List ℕ) → IsText kind v text → field_value kind text ≡ Ok v
  value_again kind v text (inl null) = ap (field_value kind) null.0 ∙ ap Ok (sym null.1)
  value_again kind v text (inr w) = ap (field_value kind) w.1 ∙ escaped_value kind w.0 ∙ w.2

  -- ---- a line

  cut_fields : (kind : Kind) (kinds : List Kind) (v : Value A) (vs : List (Value A)) → has_kind kind v ≡ true → fit_kinds kinds vs ≡ true
      → cut (field_text v ++ flat_map (λ w. tab ∷ field_text w) vs) ≡ field_text v ∷ map field_text vs
  cut_fields kind [] v [] h hs = field_uncut kind v (field_text v) (field_is kind v h) [] ∙ ap (λ (text : List ℕ). text ∷ []) (append-nil (field_text v))
  cut_fields kind (k ∷ kinds) v [] h hs = absurd cc
  cut_fields kind [] v (w ∷ ws) h hs = absurd cc
  cut_fields kind (k ∷ kinds) v (w ∷ ws) h hs =
      let parts = and_parts (has_kind k w) (fit_kinds kinds ws) hs in
      field_uncut kind v (field_text v) (field_is kind v h) (tab ∷ (field_text w ++ flat_map (λ x. tab ∷ field_text x) ws))
      ∙ ap (λ (text : List ℕ). text ∷ cut (field_text w ++ flat_map (λ x. tab ∷ field_text x) ws)) (append-nil (field_text v))
      ∙ ap (λ (fields : List (List ℕ)). field_text v ∷ fields) (cut_fields k kinds w ws parts.0 parts.1)

  all_fields : (kinds : List Kind) (vs : List (Value A)) → fit_kinds kinds vs ≡ true → list_all is_field (map field_text vs) ≡ true
  all_fields [] [] h = refl
  all_fields (k ∷ kinds) [] h = refl
  all_fields [] (v ∷ vs) h = absurd cc
  all_fields (k ∷ kinds) (v ∷ vs) h =
      let parts = and_parts (has_kind k v) (fit_kinds kinds vs) h in
      and_from (is_field (field_text v)) (list_all is_field (map field_text vs)) (is_field_text k v (field_text v) (field_is k v parts.0)) (all_fields kinds vs parts.1)

  so_many : (kinds : List Kind) (vs : List (Value A)) → fit_kinds kinds vs ≡ true → length (map field_text vs) ≡ length kinds
  so_many [] [] h = refl
  so_many (k ∷ kinds) [] h = absurd cc
  so_many [] (v ∷ vs) h = absurd cc
  so_many (k ∷ kinds) (v ∷ vs) h = ap suc (so_many kinds vs (and_parts (has_kind k v) (fit_kinds kinds vs) h).1)

  values_again : (kinds : List Kind) (vs : List (Value A)) → fit_kinds kinds vs ≡ true → field_values kinds (map field_text vs) ≡ Ok vs
  values_again [] [] h = refl
  values_again (k ∷ kinds) [] h = absurd cc
  values_again [] (v ∷ vs) h = absurd cc
  values_again (k ∷ kinds) (v ∷ vs) h =
      let parts = and_parts (has_kind k v) (fit_kinds kinds vs) h in
      ap (λ r. onto_values r (field_values kinds (map field_text vs))) (value_again k v (field_text v) (field_is k v parts.0))
      ∙ ap (onto_values (Ok v)) (values_again kinds vs parts.1)

  cut_line : (kinds : List Kind) (vs : List (Value A)) → fit_kinds kinds vs ≡ true → 0 < length vs → cut (line_text vs) ≡ map field_text vs
  cut_line [] [] h some = absurd (omega arith)
  cut_line (k ∷ kinds) [] h some = absurd (omega arith)
  cut_line [] (v ∷ vs) h some = absurd cc
  cut_line (k ∷ kinds) (v ∷ vs) h some =
      let parts = and_parts (has_kind k v) (fit_kinds kinds vs) h in
      ap cut (join_cons field_text tab v vs) ∙ cut_fields k kinds v vs parts.0 parts.1

  -- what is written of values of their kinds reads as these values
  pub line_values-line_text : (kinds : List Kind) (vs : List (Value A)) → fit_kinds kinds vs ≡ true → 0 < length vs → line_values kinds (line_text vs) ≡ Ok vs
  line_values-line_text kinds vs h some =
      let form = and_from (list_all is_field (map field_text vs)) (eqb (length (map field_text vs)) (length kinds)) (all_fields kinds vs h) (eq-eqb (length (map field_text vs)) (length kinds) (so_many kinds vs h)) in
      ap (λ (fields : List (List ℕ)). cond (list_all is_field fields && eqb (length fields) (length kinds)) (field_values kinds fields) (Err BadCopyFileFormat)) (cut_line kinds vs h some)
      ∙ ap (λ (t : Bool). cond t (field_values kinds (map field_text vs)) (Err BadCopyFileFormat)) form
      ∙ values_again kinds vs h

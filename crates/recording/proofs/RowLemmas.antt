-- The line of a row: it is text without a newline, and reads as the row.
use Rattle.std.proofs.Common.{◌≡◌, ℕ, zero, suc, ◌+◌, ◌/◌, ◌%◌, ◌<◌, ◌≤◌, pos, negsuc, Bool, true, false, true≢false, cond, eqb, leb, ltb, List, [], ◌∷◌, ◌++◌, length, get_or, Option, Some, None, refl, sym, ap, subst, ◌∙◌, append_assoc, arith}
use lib.Utf8.{encode, encodes, next, scalar, scalars}
use Rattle.std.specs.Prelude.{codes}
use Rattle.std.specs.Fmt.{decimal}
use Rattle.std.specs.List.{list_all, list_any}
use Rattle.std.specs.Result.{result_ok}
use Rattle.std.specs.Str.{IsAscii, IsUtf8, is_utf8}
use Rattle.std.proofs.lemmas.Bool.{and_from, and_parts, le-leb, leb-true, ltb-true, or_from, or_parts}
use Rattle.std.proofs.lemmas.List.{append-nil}
use Rattle.std.proofs.lemmas.Str.{IsUtf8-append, IsUtf8-from_ascii, IsUtf8-from_is_utf8, IsUtf8-nil, encode_ascii}
use Rattle.hex.specs.Hex.{encode_lower, encode_with, lower_digits}
use Rattle.value.specs.declared.kind.Kind.{Kind}
use Rattle.value.specs.declared.kind.Kind.TheVariants as kind
use Rattle.value.specs.declared.value.Value.{Value}
use Rattle.value.specs.declared.value.Value.TheVariants.{Null, Int, Text, Bytes}
use Rattle.value.specs.Printed.{bytea_text}
use Rattle.value.proofs.Basics.{eqb_comm, lt-eqb}
use Rattle.schema.specs.Plain.{has_kind}
use Rattle.copytext.specs.Reading.{is_break}
use Rattle.copytext.specs.RoundTrip.{fit_kinds}
use Rattle.copytext.specs.Writing.{by_letter, escaped, field_text, letter_of, line_text}
use Rattle.copytext.proofs.EscapedLemmas.{no_break-escaped}
use Rattle.copytext.proofs.RoundTrip.{line_values-line_text}
use Rattle.copytext.proofs.WritingLemmas.{bytea_escaped, escaped-plain, is_plain}
use Rattle.transcript.specs.Reading.{values_of}
use Rattle.recording.proofs.TextLemmas.{IsUtf8-plain, Lacks, decimal_plain, lacks-append, plain_lacks}

-- ---- ASCII, also what doesn't print

abbrev IsLow : List ℕ → Type 0
IsLow text = list_all (λ b. ltb b 128) text ≡ true

low_ascii : (text : List ℕ) → IsLow text → IsAscii text
low_ascii [] h i = omega arith
low_ascii (b ∷ text) h zero = ltb-true b 128 (and_parts (ltb b 128) (list_all (λ x. ltb x 128) text) h).0
low_ascii (b ∷ text) h (suc i) = low_ascii text (and_parts (ltb b 128) (list_all (λ x. ltb x 128) text) h).1 i

IsUtf8-low : (text : List ℕ) → IsLow text → IsUtf8 text
IsUtf8-low text h = IsUtf8-from_ascii text (low_ascii text h)

-- ---- escaped bytes

-- a letter that is written in a byte's place is ASCII
record Small (o : Option ℕ) : Type 0 where
  small : (l : ℕ) → o ≡ Some l → ltb l 128 ≡ true

pick : (b : Bool) (l : ℕ) (o : Option ℕ) → ltb l 128 ≡ true → Small o → Small (cond b (Some l) o)
pick true l o h s = record { small = λ k e. let same : l ≡ k = cc in subst (λ x. ltb x 128 ≡ true) same h }
pick false l o h s = s

letter_small : (c : ℕ) → Small (letter_of c)
letter_small c =
    pick (eqb c 8) 98 _ refl (pick (eqb c 9) 116 _ refl (pick (eqb c 10) 110 _ refl (pick (eqb c 11) 118 _ refl
    (pick (eqb c 12) 102 _ refl (pick (eqb c 13) 114 _ refl (pick (eqb c 92) 92 None refl (record { small = λ k e. absurd cc })))))))

letter_low : (c : ℕ) (o : Option ℕ) → ltb c 128 ≡ true → Small o → IsLow (by_letter c o)
letter_low c None h s = and_from (ltb c 128) true h refl
letter_low c (Some l) h s = and_from (ltb l 128) true (s.small l refl) refl

escaped_append : (a b : List ℕ) → escaped (a ++ b) ≡ escaped a ++ escaped b
escaped_append [] b = refl
escaped_append (x ∷ a) b = ap (λ (t : List ℕ). by_letter x (letter_of x) ++ t) (escaped_append a b) ∙ sym (append_assoc (by_letter x (letter_of x)) (escaped a) (escaped b))

abbrev are_high : List ℕ → Bool
are_high bytes = list_all (λ b. leb 128 b) bytes

high_plain : (b : ℕ) → leb 128 b ≡ true → is_plain b ≡ true
high_plain b h = rw (apart 8 (omega arith), apart 9 (omega arith), apart 10 (omega arith), apart 11 (omega arith), apart 12 (omega arith), apart 13 (omega arith), apart 92 (omega arith)) refl
  where
    high : 128 ≤ b
    high = leb-true 128 b h

    apart : (n : ℕ) → n < 128 → eqb b n ≡ false
    apart n l = eqb_comm b n ∙ lt-eqb n b (omega (arith, high, l))

all_plain : (bytes : List ℕ) → are_high bytes ≡ true → list_all is_plain bytes ≡ true
all_plain [] h = refl
all_plain (b ∷ bytes) h =
    let p = and_parts (leb 128 b) (are_high bytes) h in
    and_from (is_plain b) (list_all is_plain bytes) (high_plain b p.0) (all_plain bytes p.1)

next_high : (n : ℕ) → leb 128 (next n) ≡ true
next_high n = le-leb 128 (next n) (omega arith)

encode_high : (c : ℕ) → ltb c 128 ≡ false → are_high (encode c) ≡ true
unfolding encode
encode_high c h = rw h (go (ltb c 2048) (ltb c 65536))
  where
    first : (k n : ℕ) → 128 ≤ k → leb 128 (k + n) ≡ true
    first k n l = le-leb 128 (k + n) (omega (arith, l))

    go : (two three : Bool) → are_high (cond two ((192 + c / 64) ∷ next c ∷ []) (cond three ((224 + c / 4096) ∷ next (c / 64) ∷ next c ∷ []) ((240 + c / 262144) ∷ next (c / 4096) ∷ next (c / 64) ∷ next c ∷ []))) ≡ true
    go true three = rw (first 192 (c / 64) (omega arith), next_high c) refl
    go false true = rw (first 224 (c / 4096) (omega arith), next_high (c / 64), next_high c) refl
    go false false = rw (first 240 (c / 262144) (omega arith), next_high (c / 4096), next_high (c / 64), next_high c) refl

utf8_char : (c : ℕ) → scalar c ≡ true → IsUtf8 (encode c)
utf8_char c h = (c ∷ [], (and_from (scalar c) true h refl, append-nil (encode c)))

char_utf8 : (c : ℕ) → scalar c ≡ true → IsUtf8 (escaped (encode c))
char_utf8 c h = go (ltb c 128) refl
  where
    go : (b : Bool) → ltb c 128 ≡ b → IsUtf8 (escaped (encode c))
    go true e =
        subst (λ (t : List ℕ). IsUtf8 (escaped t)) (sym (encode_ascii c (ltb-true c 128 e)))
        (subst IsUtf8 (sym (append-nil (by_letter c (letter_of c)))) (IsUtf8-low (by_letter c (letter_of c)) (letter_low c (letter_of c) e (letter_small c))))
    go false e = subst IsUtf8 (sym (escaped-plain (encode c) (all_plain (encode c) (encode_high c e)))) (utf8_char c h)

chars_utf8 : (cs : List ℕ) → scalars cs ≡ true → IsUtf8 (escaped (encodes cs))
chars_utf8 [] h = IsUtf8-nil
chars_utf8 (c ∷ cs) h =
    let p = and_parts (scalar c) (scalars cs) h in
    subst IsUtf8 (sym (escaped_append (encode c) (encodes cs))) (IsUtf8-append (escaped (encode c)) (escaped (encodes cs)) (char_utf8 c p.0) (chars_utf8 cs p.1))

escaped_utf8 : (t : List ℕ) → IsUtf8 t → IsUtf8 (escaped t)
escaped_utf8 t u = subst (λ (x : List ℕ). IsUtf8 (escaped x)) u.1.1 (chars_utf8 u.0 u.1.0)

-- ---- bytes in hexadecimal digits

low_at : (bytes : List ℕ) (i : ℕ) → IsLow bytes → ltb (get_or bytes i 0) 128 ≡ true
low_at [] i h = refl
low_at (b ∷ bytes) zero h = (and_parts (ltb b 128) (list_all (λ x. ltb x 128) bytes) h).0
low_at (b ∷ bytes) (suc i) h = low_at bytes i (and_parts (ltb b 128) (list_all (λ x. ltb x 128) bytes) h).1

hexadecimal_low : (bytes : List ℕ) → IsLow (encode_lower bytes)
unfolding encode_with
hexadecimal_low [] = refl
hexadecimal_low (b ∷ bytes) = rw (low_at lower_digits (b / 16) refl, low_at lower_digits (b % 16) refl) (hexadecimal_low bytes)

-- ---- no newline

no_newline : (text : List ℕ) → list_any is_break text ≡ false → Lacks 10 text
no_newline [] h = refl
no_newline (b ∷ text) h =
    let p = or_parts (is_break b) (list_any is_break text) h in
    or_from (eqb b 10) (list_any (λ x. eqb x 10) text) (or_parts (eqb b 10) (eqb b 13) p.0).0 (no_newline text p.1)

module _ {A : Type 0} where
  field_utf8 : (k : Kind) (v : Value A) → has_kind k v ≡ true → IsUtf8 (field_text v)
  field_utf8 k Null h = IsUtf8-low (codes "\\N") refl
  field_utf8 k (Int (pos n)) h = IsUtf8-plain (decimal n) (decimal_plain n)
  field_utf8 k (Int (negsuc n)) h = IsUtf8-plain (45 ∷ decimal (suc n)) (decimal_plain (suc n))
  field_utf8 kind.Text (Text t) h = escaped_utf8 t (IsUtf8-from_is_utf8 t (and_parts (is_utf8 t) _ h).0)
  field_utf8 kind.Bigint (Text t) h = absurd (true≢false (sym h))
  field_utf8 kind.Bytea (Text t) h = absurd (true≢false (sym h))
  field_utf8 k (Bytes b) h = subst IsUtf8 (sym (bytea_escaped b)) (IsUtf8-low (92 ∷ bytea_text b) (hexadecimal_low b))

  -- the line of a row is text
  pub row_utf8 : (kinds : List Kind) (vs : List (Value A)) → fit_kinds kinds vs ≡ true → IsUtf8 (line_text vs)
  row_utf8 [] [] h = IsUtf8-nil
  row_utf8 [] (v ∷ vs) h = absurd (true≢false (sym h))
  row_utf8 (k ∷ kinds) [] h = IsUtf8-nil
  row_utf8 (k ∷ kinds) (v ∷ []) h = field_utf8 k v (and_parts (has_kind k v) (fit_kinds kinds []) h).0
  row_utf8 (k ∷ kinds) (v ∷ w ∷ ws) h =
      let p = and_parts (has_kind k v) (fit_kinds kinds (w ∷ ws)) h in
      IsUtf8-append (field_text v) (9 ∷ line_text (w ∷ ws)) (field_utf8 k v p.0) (IsUtf8-append (9 ∷ []) (line_text (w ∷ ws)) (IsUtf8-low (9 ∷ []) refl) (row_utf8 kinds (w ∷ ws) p.1))

  field_lacks : (v : Value A) → Lacks 10 (field_text v)
  field_lacks Null = refl
  field_lacks (Int (pos n)) = plain_lacks (decimal n) (decimal_plain n)
  field_lacks (Int (negsuc n)) = plain_lacks (45 ∷ decimal (suc n)) (decimal_plain (suc n))
  field_lacks (Text t) = no_newline (escaped t) (no_break-escaped t)
  field_lacks (Bytes b) = no_newline (escaped (bytea_text b)) (no_break-escaped (bytea_text b))

  pub row_lacks : (vs : List (Value A)) → Lacks 10 (line_text vs)
  row_lacks [] = refl
  row_lacks (v ∷ []) = field_lacks v
  row_lacks (v ∷ w ∷ ws) = lacks-append 10 (field_text v) (9 ∷ line_text (w ∷ ws)) (field_lacks v) (row_lacks (w ∷ ws))

  -- ---- it reads as the row

  pub row_again : (kinds : List Kind) (vs : List (Value A)) → fit_kinds kinds vs ≡ true → 0 < length vs → values_of kinds (line_text vs) ≡ Some vs
  row_again kinds vs h some = ap result_ok (line_values-line_text kinds vs h some)

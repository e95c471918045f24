-- What a literal stands for is a value of its kind.
use Rattle.std.proofs.Common.{◌≡◌, ℕ, ◌+◌, ◌*◌, ◌%◌, ◌^◌, drop, codes, nat_eq, ◌<◌, ◌==◌, nat_lt, nat_le, ℤ, pos, negsuc, neg_ℤ, Bool, true, false, cond, not, ◌&&◌, List, [], ◌∷◌, length, Option, Some, None, Result, Ok, Err, refl, ap, subst, ◌∙◌, inl, inr, w64, arith}
use Rattle.std.specs.Prelude.{FitsSigned}
use Rattle.std.specs.List.{list_any, list_all, starts_with}
use Rattle.std.specs.Str.{is_utf8}
use Rattle.std.specs.Str.Parse.{starts_with_minus, without_leading_sign, digits_value}
use Rattle.std.proofs.lemmas.Bool.{cases_lt}
use Rattle.std.proofs.lemmas.Bool.Decides.{nat_tests}
use Rattle.std.proofs.lemmas.Int.{ints}
use Rattle.std.specs.Cmp.Derive.{both_true}
use Rattle.hex.specs.declared.error.FromHexError.{FromHexError}
use Rattle.hex.specs.declared.error.FromHexError.TheVariants.{OddLength}
use Rattle.hex.specs.Hex as hex
use Rattle.value.specs.declared.kind.Kind.{Kind}
use Rattle.value.specs.declared.kind.Kind.TheVariants as of
use Rattle.value.specs.declared.refusal.Code.{Code}
use Rattle.value.specs.declared.refusal.Code.TheVariants.{CharacterNotInRepertoire, InvalidTextRepresentation}
use Rattle.value.specs.declared.value.Value.{Value}
use Rattle.value.specs.declared.value.Value.TheVariants.{Int, Text, Bytes}
use Rattle.value.specs.Literal.{is_bigint_form, signed_number, bigint_of, decoded, as_int, as_text, as_bytes, literal_of}
use Rattle.schema.specs.Plain.{in_range, has_kind}

abbrev done : {A E : Type 0} → A → Result A E
done x = Ok x

abbrev failed : {A E : Type 0} → E → Result A E
failed e = Err e

done_same : {A E : Type 0} (x y : A) → done {A = A} {E = E} x ≡ done y → x ≡ y
done_same x y e = cc

not_done : {A E : Type 0} (e : E) (y : A) → failed {A = A} {E = E} e ≡ Ok y → ⊥
not_done e y h = cc

-- ---- numbers

abbrev refusing : Code → Result ℤ Code
refusing code = Err code

abbrev reading : ℤ → Result ℤ Code
reading k = Ok k

refused_number : (code : Code) (m : ℤ) → refusing code ≡ Ok m → ⊥
refused_number code m h = cc

read_number : (k m : ℤ) → reading k ≡ Ok m → k ≡ m
read_number k m h = cc

-- a number that was read is one of 64 bits
signed_fits : (sign : Bool) (n : ℕ) (m : ℤ) → signed_number sign n ≡ Ok m → FitsSigned w64 m
signed_fits true n m h =
    elim (cases_lt (2 ^ 63) n) [
      | inl above ↦ let none : nat_le n (2 ^ 63) ≡ false = grind (arith, nat_tests) in absurd (refused_number _ m (rw none at h))
      | inr within ↦ let some : nat_le n (2 ^ 63) ≡ true = grind (arith, nat_tests) in
          let fits : FitsSigned w64 (neg_ℤ (pos n)) = omega (arith, ints) in subst (λ (k : ℤ). FitsSigned w64 k) (read_number _ m (rw some at h)) fits
    ]
signed_fits false n m h =
    elim (cases_lt n (2 ^ 63)) [
      | inl within ↦ let some : nat_lt n (2 ^ 63) ≡ true = grind (arith, nat_tests) in
          let fits : FitsSigned w64 (pos n) = omega (arith, ints) in subst (λ (k : ℤ). FitsSigned w64 k) (read_number _ m (rw some at h)) fits
      | inr above ↦ let none : nat_lt n (2 ^ 63) ≡ false = grind (arith, nat_tests) in absurd (refused_number _ m (rw none at h))
    ]

pub bigint_fits : (text : List ℕ) (m : ℤ) → bigint_of text ≡ Ok m → FitsSigned w64 m
bigint_fits text m h = go (is_bigint_form text) h
  where
    go : (form : Bool) → cond form (signed_number (starts_with_minus text) (digits_value 10 (without_leading_sign text))) (Err InvalidTextRepresentation) ≡ Ok m → FitsSigned w64 m
    go true k = signed_fits (starts_with_minus text) (digits_value 10 (without_leading_sign text)) m k
    go false k = absurd (refused_number InvalidTextRepresentation m k)

in_range_of : (m : ℤ) → FitsSigned w64 m → in_range m ≡ true
in_range_of (pos n) h = let lt : n < 2 ^ 63 = omega (arith, ints) in grind (arith, nat_tests)
in_range_of (negsuc n) h = let lt : n < 2 ^ 63 = omega (arith, ints) in grind (arith, nat_tests)

-- ---- bytes

abbrev hex_then : {A B : Type 0} → Result A FromHexError → (A → Result B FromHexError) → Result B FromHexError
hex_then (Ok x) f = f x
hex_then (Err e) f = Err e

hex_bind : {A B : Type 0} (r : Result A FromHexError) (f : A → Result B FromHexError) (y : B) → hex_then r f ≡ Ok y → (x : A) × (r ≡ Ok x) × (f x ≡ Ok y)
hex_bind (Ok x) f y e = (x, refl, e)
hex_bind (Err r) f y e = absurd (not_done r y e)

digit_below : (c v : ℕ) → hex.hex_digit_value c ≡ Some v → v < 16
digit_below c v h = grind (arith, nat_tests)

value_below : (c i v : ℕ) → hex.value_at c i ≡ Ok v → v < 16
value_below c i v h = go (hex.hex_digit_value c) refl h
  where
    go : (o : Option ℕ) → hex.hex_digit_value c ≡ o → hex.digit_or_error c i o ≡ Ok v → v < 16
    go (Some w) is e = digit_below c v (is ∙ ap (λ (k : ℕ). Some k) (done_same {E = FromHexError} w v e))
    go None is e = absurd cc

pair_below : (high low i byte : ℕ) → hex.pair_value high low i ≡ Ok byte → nat_lt byte 256 ≡ true
pair_below high low i byte h =
    let a = hex_bind (hex.value_at high i) (λ h. hex_then (hex.value_at low (i + 1)) (λ l. Ok (h * 16 + l))) byte h in
    let b = hex_bind (hex.value_at low (i + 1)) (λ l. Ok (a.0 * 16 + l)) byte a.2 in
    let same : a.0 * 16 + b.0 ≡ byte = done_same {E = FromHexError} (a.0 * 16 + b.0) byte b.2 in
    let x : a.0 < 16 = value_below high i a.0 a.1 in
    let y : b.0 < 16 = value_below low (i + 1) b.0 b.1 in
    let lt : byte < 256 = omega arith in
    grind (arith, nat_tests)

pairs_below : (i : ℕ) (text bytes : List ℕ) → hex.decode_pairs i text ≡ Ok bytes → list_all (λ b. nat_lt b 256) bytes ≡ true
unfolding hex.decode_pairs
pairs_below i [] bytes h = subst (λ (bs : List ℕ). list_all (λ b. nat_lt b 256) bs ≡ true) (done_same {E = FromHexError} [] bytes h) refl
pairs_below i (x ∷ []) bytes h = absurd cc
pairs_below i (high ∷ low ∷ rest) bytes h =
    let a = hex_bind (hex.pair_value high low i) (λ byte. hex_then (hex.decode_pairs (i + 2) rest) (λ more. Ok (byte ∷ more))) bytes h in
    let b = hex_bind (hex.decode_pairs (i + 2) rest) (λ more. Ok (a.0 ∷ more)) bytes a.2 in
    subst (λ (bs : List ℕ). list_all (λ b. nat_lt b 256) bs ≡ true) (done_same {E = FromHexError} (a.0 ∷ b.0) bytes b.2)
    (both_true (pair_below high low i a.0 a.1) (pairs_below (i + 2) rest b.0 b.1))

-- ---- values

module _ {A : Type 0} where
  int_fits : (r : Result ℤ Code) (bytes : List ℕ) (v : Value A) → bigint_of bytes ≡ r → as_int r ≡ Ok v → has_kind of.Bigint v ≡ true
  int_fits (Ok n) bytes v is h = subst (λ (w : Value A). has_kind of.Bigint w ≡ true) (done_same {E = Code} (Int n) v h) (in_range_of n (bigint_fits bytes n is))
  int_fits (Err code) bytes v is h = absurd (not_done {A = Value A} code v h)

  text_fits : (good : Bool) (bytes : List ℕ) (v : Value A) → (is_utf8 bytes && not (list_any (λ b. b == 0) bytes)) ≡ good
      → as_text (cond good (Ok bytes) (Err CharacterNotInRepertoire)) ≡ Ok v → has_kind of.Text v ≡ true
  text_fits true bytes v is h = subst (λ (w : Value A). has_kind of.Text w ≡ true) (done_same {E = Code} (Text bytes) v h) is
  text_fits false bytes v is h = absurd (not_done {A = Value A} CharacterNotInRepertoire v h)

  decoded_fits : (r : Result (List ℕ) FromHexError) (digits : List ℕ) (v : Value A) → hex.decode_pairs 0 digits ≡ r → as_bytes (decoded r) ≡ Ok v → has_kind of.Bytea v ≡ true
  decoded_fits (Ok bytes) digits v is h = subst (λ (w : Value A). has_kind of.Bytea w ≡ true) (done_same {E = Code} (Bytes bytes) v h) (pairs_below 0 digits bytes is)
  decoded_fits (Err e) digits v is h = absurd (not_done {A = Value A} InvalidTextRepresentation v h)

  bytea_fits : (prefix odd : Bool) (digits : List ℕ) (v : Value A)
      → as_bytes (cond prefix (decoded (cond odd (Err OddLength) (hex.decode_pairs 0 digits))) (Err InvalidTextRepresentation)) ≡ Ok v → has_kind of.Bytea v ≡ true
  bytea_fits true true digits v h = absurd (not_done {A = Value A} InvalidTextRepresentation v h)
  bytea_fits true false digits v h = decoded_fits (hex.decode_pairs 0 digits) digits v refl h
  bytea_fits false odd digits v h = absurd (not_done {A = Value A} InvalidTextRepresentation v h)

  pub literal_fits : (k : Kind) (bytes : List ℕ) (v : Value A) → literal_of k bytes ≡ Ok v → has_kind k v ≡ true
  literal_fits of.Bigint bytes v h = int_fits (bigint_of bytes) bytes v refl h
  literal_fits of.Text bytes v h = text_fits (is_utf8 bytes && not (list_any (λ b. b == 0) bytes)) bytes v refl h
  literal_fits of.Bytea bytes v h = bytea_fits (starts_with nat_eq bytes (codes "\\x")) (length (drop 2 bytes) % 2 == 1) (drop 2 bytes) v h

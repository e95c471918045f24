-- What the tests on a literal's bytes say of its value.
use Rattle.std.proofs.Common.{◌≡◌, ℕ, pos, neg_ℤ, ◌<◌, ◌^◌, ◌==◌, Bool, true, false, cond, List, [], ◌∷◌, length, Ok, Err, inl, inr, refl, ◌∙◌, arith, w64, rules}
use Rattle.std.specs.Char.{is_ascii_digit}
use Rattle.std.specs.Prelude.{FitsSigned, if◌then◌else◌}
use Rattle.std.specs.List.{list_any, list_all}
use Rattle.std.specs.Str.{IsUtf8, IsAscii, is_utf8}
use Rattle.std.specs.Str.Parse.{starts_with_minus, without_leading_sign, digits_value, signed_digits_value, IsNumeral}
use mathlib.Core.Bool.{false≢true}
use Rattle.std.proofs.lemmas.Bool.{false_from_ne_true, cases_lt}
use Rattle.std.proofs.lemmas.Bool.Decides.{nat_tests}
use Rattle.std.proofs.lemmas.Fmt.{IsAscii-from_digits}
use Rattle.std.proofs.lemmas.Int.{ints}
use Rattle.std.proofs.lemmas.Grind.{common_steps}
use Rattle.std.proofs.lemmas.Str.Ascii.{IsAscii-cons}
use Rattle.std.proofs.lemmas.Str.{is_utf8-from_IsUtf8, IsUtf8-from_is_utf8, IsUtf8-from_ascii}
use Rattle.std.proofs.lemmas.Str.Parse.{IsNumeralModel, numerals_by_value}
use Rattle.value.specs.declared.refusal.Code.TheVariants.{NumericValueOutOfRange, CharacterNotInRepertoire, InvalidTextRepresentation}
use Rattle.value.specs.Literal.{is_bigint_form, signed_number, bigint_of, text_of}

pub text_of-good : (bytes : List ℕ) → IsUtf8 bytes → list_any (λ b. b == 0) bytes ≡ false → text_of bytes ≡ Ok bytes
text_of-good bytes utf8 no_zero = rw (is_utf8-from_IsUtf8 bytes utf8, no_zero) refl

pub text_of-zero : (bytes : List ℕ) → IsUtf8 bytes → list_any (λ b. b == 0) bytes ≡ true → text_of bytes ≡ Err CharacterNotInRepertoire
text_of-zero bytes utf8 zero = rw (is_utf8-from_IsUtf8 bytes utf8, zero) refl

pub text_of-other : (bytes : List ℕ) → ¬ (IsUtf8 bytes) → text_of bytes ≡ Err CharacterNotInRepertoire
text_of-other bytes other = rw (false_from_ne_true (is_utf8 bytes) (λ h. other (IsUtf8-from_is_utf8 bytes h))) refl

-- the digits that a bigint's form asks for are those of `parse`
pub numerals : IsNumeralModel (λ ds. list_all is_ascii_digit ds ≡ true) (digits_value 10)
numerals = numerals_by_value _ (search rules)

-- a bigint's form is ASCII
pub IsAscii-form : (text : List ℕ) → is_bigint_form text ≡ true → IsAscii text
IsAscii-form [] h = absurd (false≢true h)
IsAscii-form (b ∷ rest) h =
    let first : b < 128 = grind (arith, nat_tests, common_steps) in
    let others : list_all is_ascii_digit rest ≡ true = grind (arith, nat_tests, common_steps) in
    IsAscii-cons b rest first (IsAscii-from_digits rest (numerals.to rest others))

-- so what isn't UTF-8 has another form
pub bigint_of-other : (text : List ℕ) → ¬ (IsUtf8 text) → bigint_of text ≡ Err InvalidTextRepresentation
bigint_of-other text other = rw (false_from_ne_true (is_bigint_form text) (λ h. other (IsUtf8-from_ascii text (IsAscii-form text h)))) refl

-- the numbers of 64 bits, by sign and magnitude
signed_number-over : (sign : Bool) (n : ℕ) → ¬ (FitsSigned w64 (cond sign (neg_ℤ (pos n)) (pos n))) → signed_number sign n ≡ Err NumericValueOutOfRange
signed_number-over true n over = elim (cases_lt (2 ^ 63) n) [ inl above ↦ grind (arith, nat_tests) | inr within ↦ absurd (over (omega (arith, ints))) ]
signed_number-over false n over = elim (cases_lt n (2 ^ 63)) [ inl within ↦ absurd (over (omega (arith, ints))) | inr above ↦ grind (arith, nat_tests) ]

signed_number-within : (sign : Bool) (n : ℕ) → FitsSigned w64 (cond sign (neg_ℤ (pos n)) (pos n)) → signed_number sign n ≡ Ok (cond sign (neg_ℤ (pos n)) (pos n))
signed_number-within true n fits = elim (cases_lt (2 ^ 63) n) [ inl above ↦ absurd (let h : FitsSigned w64 (neg_ℤ (pos n)) = fits in omega (arith, ints)) | inr within ↦ grind (arith, nat_tests) ]
signed_number-within false n fits = elim (cases_lt n (2 ^ 63)) [ inl within ↦ grind (arith, nat_tests) | inr above ↦ absurd (let h : FitsSigned w64 (pos n) = fits in omega (arith, ints)) ]

-- a numeral has a bigint's form
form_of : (text : List ℕ) → IsNumeral 10 (without_leading_sign text) → is_bigint_form text ≡ true
form_of text numeral =
    let digits : list_all is_ascii_digit (without_leading_sign text) ≡ true = numerals.from _ numeral.1 in
    let some : 0 < length (without_leading_sign text) = numeral.0 in
    grind (arith, nat_tests, digits, some)

-- a numeral that `parse` reads is the bigint
pub bigint_of-read : (text : List ℕ) → IsNumeral 10 (without_leading_sign text) → FitsSigned w64 (signed_digits_value 10 text) → bigint_of text ≡ Ok (signed_digits_value 10 text)
bigint_of-read text numeral fits = rw (form_of text numeral) (signed_number-within (starts_with_minus text) _ fits)

-- a numeral that `parse` refuses is out of range
pub bigint_of-over : (text : List ℕ) → is_bigint_form text ≡ true → ¬ (IsNumeral 10 (without_leading_sign text) × FitsSigned w64 (signed_digits_value 10 text)) → bigint_of text ≡ Err NumericValueOutOfRange
bigint_of-over text form over =
    let digits : list_all is_ascii_digit (without_leading_sign text) ≡ true = grind (arith, nat_tests, form) in
    let some : 0 < length (without_leading_sign text) = grind (arith, nat_tests, form) in
    rw form (signed_number-over (starts_with_minus text) _ (λ fits. over ((some, numerals.to _ digits), fits)))

-- a text that `parse` refuses has the code of its form, or else of its range
pub bigint_of-refused : (text : List ℕ) → ¬ (IsNumeral 10 (without_leading_sign text) × FitsSigned w64 (signed_digits_value 10 text)) → bigint_of text ≡ Err (if is_bigint_form text then NumericValueOutOfRange else InvalidTextRepresentation)
bigint_of-refused text over = go (is_bigint_form text) refl
  where
    go : (form : Bool) → is_bigint_form text ≡ form → bigint_of text ≡ Err (if is_bigint_form text then NumericValueOutOfRange else InvalidTextRepresentation)
    go true form = bigint_of-over text form over ∙ rw form refl
    go false form = rw form refl

-- Digits as `parse` reads them.
use Rattle.std.proofs.Common.{◌≡◌, ℕ, ◌<◌, ◌^◌, true, nat_lt, List, [], ◌∷◌, length, Some, None, Result, Ok, Err, subst, refl, sym, ap, ◌∙◌, arith}
use Rattle.std.specs.Char.{is_ascii_digit}
use Rattle.std.specs.List.{list_all}
use Rattle.std.specs.Str.{IsUtf8}
use Rattle.std.specs.Result.{result_ok}
use Rattle.std.specs.Str.Parse.{without_leading_plus, digits_value, IsNumeral, ParsesUnsigned}
use Rattle.std.proofs.lemmas.Bool.{false_from_ne_true, lt-ltb, ltb-true}
use Rattle.std.proofs.lemmas.Bool.Decides.{nat_tests}
use Rattle.std.proofs.lemmas.Fmt.{IsAscii-from_digits}
use Rattle.std.proofs.lemmas.Grind.{common_steps}
use Rattle.std.proofs.lemmas.Str.{IsUtf8-from_ascii}
use Rattle.value.proofs.LiteralLemmas.{numerals}
use Rattle.certificate.specs.Words.{is_digits, number_of}

pub are_digits : (text : List ℕ) → is_digits text ≡ true → list_all is_ascii_digit text ≡ true
are_digits text h = grind (arith, nat_tests, h)

pub some_digit : (text : List ℕ) → is_digits text ≡ true → 0 < length text
some_digit text h = grind (arith, nat_tests, h)

pub IsUtf8-digits : (text : List ℕ) → is_digits text ≡ true → IsUtf8 text
IsUtf8-digits text h = IsUtf8-from_ascii text (IsAscii-from_digits text (numerals.to text (are_digits text h)))

-- no plus stands before digits
pub no_plus : (text : List ℕ) → is_digits text ≡ true → without_leading_plus text ≡ text
no_plus [] h = refl
no_plus (b ∷ bs) h = let d = are_digits (b ∷ bs) h in grind (arith, nat_tests, common_steps)

number_of-below : (text : List ℕ) → is_digits text ≡ true → digits_value 10 text < 2 ^ 64 → number_of text ≡ Some (digits_value 10 text)
number_of-below text h below = rw (h, lt-ltb (digits_value 10 text) (2 ^ 64) below) refl

number_of-over : (text : List ℕ) → is_digits text ≡ true → ¬ (digits_value 10 text < 2 ^ 64) → number_of text ≡ None
number_of-over text h over = rw (h, false_from_ne_true (nat_lt (digits_value 10 text) (2 ^ 64)) (λ t. over (ltb-true _ _ t))) refl

-- what `parse` reads of digits is their number
pub parsed : {E : Type 0} (text : List ℕ) (r : Result ℕ E) → is_digits text ≡ true → ParsesUnsigned 64 10 text r → result_ok r ≡ number_of text
parsed text (Ok n) h reads =
    let at : without_leading_plus text ≡ text = no_plus text h in
    ap Some (reads.1 ∙ ap (digits_value 10) at) ∙ sym (number_of-below text h (subst (λ ds. digits_value 10 ds < 2 ^ 64) at reads.0.1))
parsed text (Err e) h fails =
    let at : without_leading_plus text ≡ text = no_plus text h in
    sym (number_of-over text h (λ below. fails (subst (λ ds. IsNumeral 10 ds) (sym at) (some_digit text h, numerals.to text (are_digits text h)), subst (λ ds. digits_value 10 ds < 2 ^ 64) (sym at) below)))

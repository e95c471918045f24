-- A number times another, by a third; and the number of interleavings with a line more.
use Rattle.std.proofs.Common.{◌≡◌, refl, sym, ap, ◌∙◌, subst, ℕ, ◌+◌, ◌-◌, ◌*◌, ◌/◌, ◌%◌, ◌^◌, ◌<◌, ◌≤◌, List, [], ◌∷◌, ◌++◌, length, sum, Option, Some, None, IfSome, IfNone, arith}
use native.Mathlib.Nat.{mul_assoc, mul_comm, mul-add-div_right, eq_of_mul-eq-mul_right, le_of_mul-le-mul_right, mul-le-mul_right, mul-le-mul_left, mul-div_cancel}
use Rattle.std.proofs.lemmas.Nat.{div-add-mod'}
use Rattle.explore.specs.Interleavings.{interleavings}
use Rattle.explore.specs.Numbers.{IsNumber, factorial, factorials}
use Rattle.explore.proofs.Factorials.{factorial-step, factorials-push, factorials_pos, sum-push}
use Rattle.explore.proofs.Number.{number}

pub scaled_is : (n t b : ℕ) → 0 < b → n / b * t + n % b * t / b ≡ n * t / b
scaled_is n t b h =
    sym (mul-add-div_right h (n / b * t) (n % b * t))
    ∙ ap (λ x. x / b) (turned (n / b) (n % b) t b)
    ∙ ap (λ x. x * t / b) (div-add-mod' n b)
  where
    turned : (q r t b : ℕ) → q * t * b + r * t ≡ (q * b + r) * t
    turned q r t b = omega arith

-- the product of the remainder fits
pub small : (r t b : ℕ) → r < b → b < 2 ^ 32 → t < 2 ^ 32 → r * t < 2 ^ 64
small r t b h k l =
    let e : r * t ≤ 4294967295 * t = mul-le-mul_right t (omega (arith, h, k)) in omega (arith, e, l)

-- the same number of lines, and their factorials: as many interleavings
pub with_none : (before : List ℕ) → length (interleavings (before ++ 0 ∷ [])) ≡ length (interleavings before)
with_none before =
    eq_of_mul-eq-mul_right (factorials before) (factorials_pos before) (length (interleavings (before ++ 0 ∷ []))) (length (interleavings before))
    (ap (λ x. length (interleavings (before ++ 0 ∷ [])) * x) (sym (factorials-push before 0 ∙ omega arith)) ∙ number (before ++ 0 ∷ [])
    ∙ ap factorial (sum-push before 0 ∙ omega arith) ∙ sym (number before))

-- with one line more of the last session
pub grown : (before : List ℕ) (own : ℕ) → 0 < own →
    length (interleavings (before ++ own ∷ [])) * own ≡ length (interleavings (before ++ (own - 1) ∷ [])) * (sum before + own)
grown before own h =
    eq_of_mul-eq-mul_right f (factorials_pos (before ++ (own - 1) ∷ [])) (m * own) (l * n)
    (mul_assoc m own f ∙ ap (λ x. m * x) (mul_comm own f ∙ sym more) ∙ number (before ++ own ∷ []) ∙ ap factorial (sum-push before own) ∙ factorial-step n (omega (arith, h))
    ∙ ap (λ x. n * x) (ap factorial less ∙ sym (number (before ++ (own - 1) ∷ []))) ∙ sym (mul_assoc n l f) ∙ ap (λ x. x * f) (mul_comm n l))
  where
    n : ℕ
    n = sum before + own

    m : ℕ
    m = length (interleavings (before ++ own ∷ []))

    l : ℕ
    l = length (interleavings (before ++ (own - 1) ∷ []))

    f : ℕ
    f = factorials (before ++ (own - 1) ∷ [])

    more : factorials (before ++ own ∷ []) ≡ f * own
    more = factorials-push before own ∙ ap (λ x. factorials before * x) (factorial-step own h ∙ mul_comm own (factorial (own - 1))) ∙ sym (mul_assoc (factorials before) (factorial (own - 1)) own)
        ∙ ap (λ x. x * own) (sym (factorials-push before (own - 1)))

    less : n - 1 ≡ sum (before ++ (own - 1) ∷ [])
    less = omega (arith, sum-push before (own - 1), h)

-- that is the number so far times all lines, by the last session's own
pub grown_by : (before : List ℕ) (own : ℕ) → 0 < own → length (interleavings (before ++ (own - 1) ∷ [])) * (sum before + own) / own ≡ length (interleavings (before ++ own ∷ []))
grown_by before own h = ap (λ x. x / own) (sym (grown before own h)) ∙ mul-div_cancel (length (interleavings (before ++ own ∷ []))) h

-- and no less than the number so far
pub grown_more : (before : List ℕ) (own : ℕ) → 0 < own → length (interleavings (before ++ (own - 1) ∷ [])) ≤ length (interleavings (before ++ own ∷ []))
grown_more before own h =
    let below : length (interleavings (before ++ (own - 1) ∷ [])) * own ≤ length (interleavings (before ++ (own - 1) ∷ [])) * (sum before + own) = mul-le-mul_left (length (interleavings (before ++ (own - 1) ∷ []))) (omega arith) in
    le_of_mul-le-mul_right (subst (λ x. length (interleavings (before ++ (own - 1) ∷ [])) * own ≤ x) (sym (grown before own h)) below) h

pub more_than : (before : List ℕ) (own : ℕ) → 0 < own → IsNumber None (before ++ (own - 1) ∷ []) → IsNumber None (before ++ own ∷ [])
more_than before own h p = omega (arith, grown_more before own h, p)

-- ---- the steps

pub stays_past : (o : Option ℕ) (before : List ℕ) (own : ℕ) → 0 < own → o ≡ None → IsNumber o (before ++ (own - 1) ∷ []) → IsNumber None (before ++ own ∷ [])
stays_past o before own h e p = more_than before own h (subst (λ x. IsNumber x (before ++ (own - 1) ∷ [])) e p)

pub grows : (before : List ℕ) (own all n : ℕ) (o r : Option ℕ) → 0 < own → sum before + own ≡ all → o ≡ Some n → IfSome r (λ m. m ≡ n * all / own) → IfNone r (2 ^ 64 ≤ n * all / own) →
    IsNumber o (before ++ (own - 1) ∷ []) → IsNumber r (before ++ own ∷ [])
grows before own all n o r h a e some none p = go r some none
  where
    now : n ≡ length (interleavings (before ++ (own - 1) ∷ []))
    now = subst (λ x. IsNumber x (before ++ (own - 1) ∷ [])) e p

    then : n * all / own ≡ length (interleavings (before ++ own ∷ []))
    then = ap (λ x. x * all / own) now ∙ ap (λ x. length (interleavings (before ++ (own - 1) ∷ [])) * x / own) (sym a) ∙ grown_by before own h

    go : (r : Option ℕ) → IfSome r (λ m. m ≡ n * all / own) → IfNone r (2 ^ 64 ≤ n * all / own) → IsNumber r (before ++ own ∷ [])
    go (Some m) f g = f ∙ then
    go None f g = omega (arith, g, then)

pub with_no_line : (o : Option ℕ) (before : List ℕ) → IsNumber o before → IsNumber o (before ++ 0 ∷ [])
with_no_line (Some n) before p = p ∙ sym (with_none before)
with_no_line None before p = omega (arith, p, with_none before)

pub one_of_none : 1 ≡ length (interleavings [])
unfolding interleavings
one_of_none = refl

-- Factorials, and sums of lists with one less.
use Rattle.std.proofs.Common.{◌≡◌, refl, sym, ap, ◌∙◌, ℕ, zero, suc, ◌+◌, ◌-◌, ◌*◌, ◌<◌, ◌≤◌, List, [], ◌∷◌, ◌++◌, length, get_or, sum, arith}
use native.Mathlib.Nat.{mul_assoc, mul_comm}
use Rattle.std.proofs.lemmas.List.Sums.{sum_by-cons, sum_by-set, sum_by_push, get_or-le-sum_by}
use Rattle.explore.specs.Interleavings.{without}
use Rattle.explore.specs.Numbers.{factorial, factorials}

pub factorial_pos : (n : ℕ) → 0 < factorial n
factorial_pos zero = omega arith
factorial_pos (suc n) = omega (arith, factorial_pos n)

pub factorials_pos : (ns : List ℕ) → 0 < factorials ns
factorials_pos [] = omega arith
factorials_pos (n ∷ ns) = pos (factorial n) (factorials ns) (factorial_pos n) (factorials_pos ns)
  where
    pos : (a b : ℕ) → 0 < a → 0 < b → 0 < a * b
    pos zero b h k = absurd (omega (arith, h))
    pos (suc a) b h k = omega (arith, k)

pub factorial-step : (n : ℕ) → 0 < n → factorial n ≡ n * factorial (n - 1)
factorial-step zero h = absurd (omega (arith, h))
factorial-step (suc n) h = let e : suc n - 1 ≡ n = omega arith in rw e refl

-- without one of a session's lines
pub factorials-without : (ns : List ℕ) (s : ℕ) → s < length ns → 0 < get_or ns s 0 → factorials ns ≡ get_or ns s 0 * factorials (without ns s)
factorials-without [] s h k = absurd (omega (arith, h))
factorials-without (n ∷ ns) zero h k = ap (λ x. x * factorials ns) (factorial-step n k) ∙ mul_assoc n (factorial (n - 1)) (factorials ns)
factorials-without (n ∷ ns) (suc s) h k =
    ap (λ x. factorial n * x) (factorials-without ns s (omega (arith, h)) k)
    ∙ swapped (factorial n) (get_or ns s 0) (factorials (without ns s))
  where
    swapped : (a b c : ℕ) → a * (b * c) ≡ b * (a * c)
    swapped a b c = sym (mul_assoc a b c) ∙ ap (λ x. x * c) (mul_comm a b) ∙ mul_assoc b a c

pub sum-cons : (n : ℕ) (ns : List ℕ) → sum (n ∷ ns) ≡ n + sum ns
sum-cons n ns = sum_by-cons (λ x. x) n ns

pub sum-push : (ns : List ℕ) (n : ℕ) → sum (ns ++ n ∷ []) ≡ sum ns + n
sum-push ns n = sum_by_push (λ x. x) ns n

pub get_or-le-sum : (ns : List ℕ) (s : ℕ) → s < length ns → get_or ns s 0 ≤ sum ns
get_or-le-sum ns s h = get_or-le-sum_by (λ x. x) ns s 0 h

pub sum-without : (ns : List ℕ) (s : ℕ) → s < length ns → 0 < get_or ns s 0 → sum ns ≡ suc (sum (without ns s))
sum-without ns s h k = let e : sum (without ns s) + get_or ns s 0 ≡ sum ns + (get_or ns s 0 - 1) = sum_by-set (λ x. x) ns s (get_or ns s 0 - 1) 0 h in omega (arith, e, k)

-- the number at the end
pub factorials-push : (ns : List ℕ) (n : ℕ) → factorials (ns ++ n ∷ []) ≡ factorials ns * factorial n
factorials-push [] n = omega arith
factorials-push (m ∷ ns) n = ap (λ x. factorial m * x) (factorials-push ns n) ∙ sym (mul_assoc (factorial m) (factorials ns) (factorial n))

-- no lines at all
pub factorials-none : (ns : List ℕ) → sum ns ≡ 0 → factorials ns ≡ 1
factorials-none [] e = refl
factorials-none (n ∷ ns) e = let z : n ≡ 0 = omega (arith, e, sum-cons n ns) in
    let r : factorials ns ≡ 1 = factorials-none ns (omega (arith, e, sum-cons n ns)) in rw (z, r) refl

-- The number of interleavings is the multinomial coefficient.
use Rattle.std.proofs.Common.{◌≡◌, refl, sym, ap, ◌∙◌, ℕ, zero, suc, ◌+◌, ◌*◌, ◌<◌, ◌≤◌, Bool, true, false, cond, eqb, List, [], ◌∷◌, ◌++◌, map, length, get_or, sum, arith}
use Rattle.std.proofs.lemmas.Bool.{eqb-true, eqb-false}
use Rattle.std.proofs.lemmas.List.{length-append, length-map}
use native.Mathlib.Nat.{mul_assoc, mul_comm, eq_of_mul-eq-mul_right}
use Rattle.explore.specs.Interleavings.{without, led_by, led_from, ordered, interleavings}
use Rattle.explore.specs.Numbers.{factorial, factorials}
use Rattle.explore.proofs.Factorials.{factorials_pos, factorials-without, factorials-none, sum-cons, sum-without}

-- the lines of m sessions from s on
pub span : List ℕ → ℕ → ℕ → ℕ
span ns s zero = 0
span ns s (suc m) = get_or ns s 0 + span ns (suc s) m

span-later : (n : ℕ) (ns : List ℕ) (s m : ℕ) → span (n ∷ ns) (suc s) m ≡ span ns s m
unfolding span
span-later n ns s zero = refl
span-later n ns s (suc m) = ap (λ x. get_or ns s 0 + x) (span-later n ns (suc s) m)

span_all : (ns : List ℕ) → span ns 0 (length ns) ≡ sum ns
unfolding span
span_all [] = refl
span_all (n ∷ ns) = ap (λ x. n + x) (span-later n ns 0 (length ns) ∙ span_all ns) ∙ sym (sum-cons n ns)

-- those that a session leads
pub led_by-number : (rest : List ℕ → List (List ℕ)) (ns : List ℕ) (s f : ℕ) → (0 < get_or ns s 0 → length (rest (without ns s)) * factorials (without ns s) ≡ f) → s < length ns →
    length (led_by rest ns s) * factorials ns ≡ get_or ns s 0 * f
led_by-number rest ns s f each h = go (eqb (get_or ns s 0) 0) refl
  where
    go : (b : Bool) → eqb (get_or ns s 0) 0 ≡ b → length (cond b [] (map (λ order. s ∷ order) (rest (without ns s)))) * factorials ns ≡ get_or ns s 0 * f
    go true e = let z : get_or ns s 0 ≡ 0 = eqb-true (get_or ns s 0) 0 e in rw z (omega arith)
    go false e = let p : 0 < get_or ns s 0 = omega (arith, eqb-false (get_or ns s 0) 0 e) in
        let l : length (map (λ order. s ∷ order) (rest (without ns s))) ≡ length (rest (without ns s)) = length-map (rest (without ns s)) (λ order. s ∷ order) in
        rw (l, factorials-without ns s h p)
        (turned (length (rest (without ns s))) (get_or ns s 0) (factorials (without ns s)) ∙ ap (λ x. get_or ns s 0 * x) (each p))
      where
        turned : (a b c : ℕ) → a * (b * c) ≡ b * (a * c)
        turned a b c = sym (mul_assoc a b c) ∙ ap (λ x. x * c) (mul_comm a b) ∙ mul_assoc b a c

-- those that m sessions from s on lead
led_from-number : (rest : List ℕ → List (List ℕ)) (ns : List ℕ) (f : ℕ) → ((s : ℕ) → s < length ns → 0 < get_or ns s 0 → length (rest (without ns s)) * factorials (without ns s) ≡ f) →
    (s m : ℕ) → s + m ≤ length ns → length (led_from rest ns s m) * factorials ns ≡ span ns s m * f
unfolding span
led_from-number rest ns f each s zero h = omega arith
led_from-number rest ns f each s (suc m) h =
    let here : s < length ns = omega (arith, h) in
    let more : suc s + m ≤ length ns = omega (arith, h) in
    let l : length (led_by rest ns s ++ led_from rest ns (suc s) m) ≡ length (led_by rest ns s) + length (led_from rest ns (suc s) m) = length-append (led_by rest ns s) (led_from rest ns (suc s) m) in
    let a : length (led_by rest ns s) * factorials ns ≡ get_or ns s 0 * f = led_by-number rest ns s f (each s here) here in
    let b : length (led_from rest ns (suc s) m) * factorials ns ≡ span ns (suc s) m * f = led_from-number rest ns f each (suc s) m more in
    ap (λ x. x * factorials ns) l ∙ joined (length (led_by rest ns s)) (length (led_from rest ns (suc s) m)) (factorials ns) (get_or ns s 0) (span ns (suc s) m) f a b
  where
    joined : (a b c d e f : ℕ) → a * c ≡ d * f → b * c ≡ e * f → (a + b) * c ≡ (d + e) * f
    joined a b c d e f p q = omega (arith, p, q)

pub ordered-number : (n : ℕ) (ns : List ℕ) → sum ns ≡ n → length (ordered n ns) * factorials ns ≡ factorial n
ordered-number zero ns e = let f : factorials ns ≡ 1 = factorials-none ns e in rw f refl
ordered-number (suc n) ns e =
    led_from-number (ordered n) ns (factorial n) (λ s h p. ordered-number n (without ns s) (omega (arith, e, sum-without ns s h p))) 0 (length ns) (omega arith)
    ∙ ap (λ x. x * factorial n) (span_all ns ∙ e)

pub number : (ns : List ℕ) → length (interleavings ns) * factorials ns ≡ factorial (sum ns)
unfolding interleavings
number ns = ordered-number (sum ns) ns refl

-- ---- shares

-- the number of those that a session leads is its share of all
pub led_by-share : (n : ℕ) (ns : List ℕ) (s : ℕ) → sum ns ≡ suc n → s < length ns → length (led_by (ordered n) ns s) * suc n ≡ length (ordered (suc n) ns) * get_or ns s 0
led_by-share n ns s e h =
    eq_of_mul-eq-mul_right (factorials ns) (factorials_pos ns) (length (led_by (ordered n) ns s) * suc n) (length (ordered (suc n) ns) * get_or ns s 0)
    (cross (length (led_by (ordered n) ns s)) (length (ordered (suc n) ns)) (factorials ns) (suc n) (get_or ns s 0) (factorial n)
    (led_by-number (ordered n) ns s (factorial n) (λ p. ordered-number n (without ns s) (omega (arith, e, sum-without ns s h p))) h)
    (ordered-number (suc n) ns e))
  where
    cross : (a t g n c f : ℕ) → a * g ≡ c * f → t * g ≡ n * f → (a * n) * g ≡ (t * c) * g
    cross a t g n c f p q =
        mul_assoc a n g ∙ ap (λ x. a * x) (mul_comm n g) ∙ sym (mul_assoc a g n) ∙ ap (λ x. x * n) p
        ∙ mul_assoc c f n ∙ ap (λ x. c * x) (mul_comm f n ∙ sym q) ∙ mul_comm c (t * g) ∙ mul_assoc t g c ∙ ap (λ x. t * x) (mul_comm g c) ∙ sym (mul_assoc t c g)

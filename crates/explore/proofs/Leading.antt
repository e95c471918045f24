-- Which session goes first in the interleaving with a number.
use Rattle.std.proofs.Common.{◌≡◌, refl, sym, ap, ◌∙◌, subst, ℕ, zero, suc, ◌+◌, ◌-◌, ◌*◌, ◌/◌, ◌<◌, ◌≤◌, ◌^◌, ◌⊎◌, inl, inr, Bool, true, false, cond, eqb, List, [], ◌∷◌, ◌++◌, map, length, get_or, sum, Option, Some, None, IfSome, IfNone, IsSome, arith, rules}
use native.Mathlib.Nat.{mul-le-mul_left, le_of_mul-le-mul_right, mul-div_cancel}
use Rattle.std.proofs.lemmas.Bool.{cases_lt, ne_eqb, eq-eqb}
use Rattle.std.proofs.lemmas.List.{length-append, length-map, get_or_append_left, get_or-append_right, get_or-map}
use Rattle.explore.specs.Interleavings.{without, led_by, led_from, ordered, interleavings}
use Rattle.explore.proofs.Factorials.{sum-without, get_or-le-sum}
use Rattle.explore.proofs.Number.{led_by-share}

-- those that the sessions from s on lead
abbrev pub from : List ℕ → ℕ → ℕ → List (List ℕ)
from ns all s = led_from (ordered (all - 1)) ns s (length ns - s)

-- those that session s leads
abbrev pub led : List ℕ → ℕ → ℕ → List (List ℕ)
led ns all s = led_by (ordered (all - 1)) ns s

pub start : (ns : List ℕ) (all : ℕ) → all ≡ sum ns → 0 < all → interleavings ns ≡ from ns all 0
unfolding interleavings
start ns all e h =
    let a : sum ns ≡ suc (all - 1) = omega (arith, e, h) in
    let b : length ns - 0 ≡ length ns = omega arith in
    rw (a, b) refl

pub step : (ns : List ℕ) (all s : ℕ) → s < length ns → from ns all s ≡ led ns all s ++ from ns all (s + 1)
step ns all s h =
    let a : length ns - s ≡ suc (length ns - (s + 1)) = omega (arith, h) in
    let b : suc s ≡ s + 1 = omega arith in
    ap (λ m. led_from (ordered (all - 1)) ns s m) a ∙ ap (λ x. led ns all s ++ led_from (ordered (all - 1)) ns x (length ns - (s + 1))) b

share : (ns : List ℕ) (all s : ℕ) → all ≡ sum ns → 0 < all → s < length ns → length (led ns all s) * all ≡ length (interleavings ns) * get_or ns s 0
unfolding interleavings
share ns all s e h k =
    let a : sum ns ≡ suc (all - 1) = omega (arith, e, h) in
    let b : suc (all - 1) ≡ all = omega (arith, h) in
    ap (λ x. length (led ns all s) * x) (sym b) ∙ led_by-share (all - 1) ns s a k ∙ ap (λ x. length (ordered x ns) * get_or ns s 0) (sym a)

pub share_is : (ns : List ℕ) (all total s : ℕ) → all ≡ sum ns → 0 < all → total ≡ length (interleavings ns) → s < length ns → total * get_or ns s 0 / all ≡ length (led ns all s)
share_is ns all total s e h t k = ap (λ x. x * get_or ns s 0 / all) t ∙ ap (λ x. x / all) (sym (share ns all s e h k)) ∙ mul-div_cancel (length (led ns all s)) h

pub share_within : (ns : List ℕ) (all total s : ℕ) → all ≡ sum ns → 0 < all → total ≡ length (interleavings ns) → s < length ns → length (led ns all s) ≤ total
share_within ns all total s e h t k =
    let own : get_or ns s 0 ≤ all = omega (arith, e, get_or-le-sum ns s k) in
    let below : length (interleavings ns) * get_or ns s 0 ≤ length (interleavings ns) * all = mul-le-mul_left (length (interleavings ns)) own in
    let least : length (led ns all s) ≤ length (interleavings ns) = le_of_mul-le-mul_right (subst (λ x. x ≤ length (interleavings ns) * all) (sym (share ns all s e h k)) below) h in
    omega (arith, t, least)

-- a session that leads some has a line left, and leads the interleavings of what is left
pub has_line : (ns : List ℕ) (all s : ℕ) → 0 < length (led ns all s) → 0 < get_or ns s 0
has_line ns all s h = go (cases_lt 0 (get_or ns s 0))
  where
    none : (b : Bool) (xs : List (List ℕ)) → b ≡ true → length (cond b [] xs) ≡ 0
    none b xs e = ap (λ x. length (cond x [] xs)) e

    go : (0 < get_or ns s 0) ⊎ (get_or ns s 0 ≤ 0) → 0 < get_or ns s 0
    go (inl p) = p
    go (inr z) = absurd (omega (arith, h, none (eqb (get_or ns s 0) 0) (map (λ o. s ∷ o) (ordered (all - 1) (without ns s))) (eq-eqb (get_or ns s 0) 0 (omega (arith, z)))))

pub leads : (ns : List ℕ) (all s : ℕ) → all ≡ sum ns → s < length ns → 0 < get_or ns s 0 → led ns all s ≡ map (λ o. s ∷ o) (interleavings (without ns s))
unfolding interleavings
leads ns all s e h p =
    let a : eqb (get_or ns s 0) 0 ≡ false = ne_eqb (get_or ns s 0) 0 (λ z. absurd (omega (arith, p, z))) in
    let b : all - 1 ≡ sum (without ns s) = omega (arith, e, sum-without ns s h p) in
    ap (λ x. cond x [] (map (λ o. s ∷ o) (ordered (all - 1) (without ns s)))) a ∙ ap (λ x. map (λ o. s ∷ o) (ordered x (without ns s))) b

pub leads-number : (ns : List ℕ) (all s : ℕ) → all ≡ sum ns → s < length ns → 0 < get_or ns s 0 → length (led ns all s) ≡ length (interleavings (without ns s))
leads-number ns all s e h p = ap length (leads ns all s e h p) ∙ length-map (interleavings (without ns s)) (λ o. s ∷ o)

pub taken : (ns : List ℕ) (all s k : ℕ) → all ≡ sum ns → s < length ns → k < length (led ns all s) →
    get_or (from ns all s) k [] ≡ s ∷ get_or (interleavings (without ns s)) k []
taken ns all s k e h l =
    let p : 0 < get_or ns s 0 = has_line ns all s (omega (arith, l)) in
    let m : k < length (interleavings (without ns s)) = omega (arith, l, leads-number ns all s e h p) in
    ap (λ x. get_or x k []) (step ns all s h) ∙ get_or_append_left (led ns all s) (from ns all (s + 1)) [] k l
    ∙ ap (λ x. get_or x k []) (leads ns all s e h p) ∙ get_or-map (λ o. s ∷ o) (interleavings (without ns s)) k [] [] m

pub passed : (ns : List ℕ) (all s k : ℕ) → s < length ns → length (led ns all s) ≤ k → get_or (from ns all s) k [] ≡ get_or (from ns all (s + 1)) (k - length (led ns all s)) []
passed ns all s k h l = ap (λ x. get_or x k []) (step ns all s h) ∙ get_or-append_right (led ns all s) (from ns all (s + 1)) (length (led ns all s)) k [] refl l

pub passed-within : (ns : List ℕ) (all s k : ℕ) → s < length ns → length (led ns all s) ≤ k → k < length (from ns all s) → k - length (led ns all s) < length (from ns all (s + 1))
passed-within ns all s k h l m =
    let e : length (from ns all s) ≡ length (led ns all s) + length (from ns all (s + 1)) = ap length (step ns all s h) ∙ length-append (led ns all s) (from ns all (s + 1)) in
    omega (arith, e, l, m)

pub none_left : (ns : List ℕ) (all s k : ℕ) → length ns ≤ s → k < length (from ns all s) → ⊥
none_left ns all s k h l = let e : length ns - s ≡ 0 = omega (arith, h) in
    let z : length (from ns all s) ≡ 0 = ap (λ m. length (led_from (ordered (all - 1)) ns s m)) e in omega (arith, z, l)

-- no session is left to go
pub nobody_left : (ns : List ℕ) (k : ℕ) → sum ns ≡ 0 → get_or (interleavings ns) k [] ≡ []
unfolding interleavings
nobody_left ns k e = ap (λ n. get_or (ordered n ns) k []) e ∙ go k
  where
    go : (k : ℕ) → get_or {A = List ℕ} ([] ∷ []) k [] ≡ []
    go zero = refl
    go (suc k) = refl

-- ---- shares as the code has them

some : (n : ℕ) → IsSome (Some n)
some n = search rules

pub is_some_below : (ns : List ℕ) (all total s own : ℕ) (o : Option ℕ) → own ≡ get_or ns s 0 → all ≡ sum ns → 0 < all → total ≡ length (interleavings ns) → s < length ns → total < 2 ^ 64 →
    IfNone o (2 ^ 64 ≤ total * own / all) → IsSome o
is_some_below ns all total s own (Some n) w e h t k l g = some n
is_some_below ns all total s own None w e h t k l g =
    let f : total * own / all ≡ length (led ns all s) = ap (λ x. total * x / all) w ∙ share_is ns all total s e h t k in
    absurd (omega (arith, g, l, f, share_within ns all total s e h t k))

pub value_of : (ns : List ℕ) (all total s own : ℕ) (o : Option ℕ) (n : ℕ) → own ≡ get_or ns s 0 → all ≡ sum ns → 0 < all → total ≡ length (interleavings ns) → s < length ns → o ≡ Some n →
    IfSome o (λ m. m ≡ total * own / all) → n ≡ length (led ns all s)
value_of ns all total s own o n w e h t k is some =
    let f : n ≡ total * own / all = subst (λ x. IfSome x (λ m. m ≡ total * own / all)) is some in f ∙ ap (λ x. total * x / all) w ∙ share_is ns all total s e h t k

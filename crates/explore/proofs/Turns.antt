-- Each interleaving has a turn for each line.
use Rattle.std.proofs.Common.{◌≡◌, refl, sym, ap, ◌∙◌, ℕ, zero, suc, ◌+◌, ◌<◌, ◌≤◌, Bool, true, false, cond, eqb, List, [], ◌∷◌, ◌++◌, map, length, get_or, sum, arith}
use Rattle.std.specs.List.{All, AllByRecursion}
use Rattle.std.proofs.lemmas.Bool.{eqb-false}
use Rattle.std.proofs.lemmas.List.Elements.{All-from_recursion}
use Rattle.explore.specs.Interleavings.{interleavings, led_by, led_from, ordered, without}
use Rattle.explore.proofs.Factorials.{sum-without}

joined : (P : List ℕ → Type 0) (xs ys : List (List ℕ)) → AllByRecursion P xs → AllByRecursion P ys → AllByRecursion P (xs ++ ys)
joined P [] ys a b = b
joined P (x ∷ xs) ys a b = (a.0, joined P xs ys a.1 b)

longer : (n s : ℕ) (xs : List (List ℕ)) → AllByRecursion (λ o. length o ≡ n) xs → AllByRecursion (λ o. length o ≡ suc n) (map (λ o. s ∷ o) xs)
longer n s [] a = tt
longer n s (x ∷ xs) a = (ap suc a.0, longer n s xs a.1)

turns-led_from : (n : ℕ) (rest : List ℕ → List (List ℕ)) (ns : List ℕ) → ((s : ℕ) → s < length ns → 0 < get_or ns s 0 → AllByRecursion (λ o. length o ≡ n) (rest (without ns s))) →
    (s m : ℕ) → s + m ≤ length ns → AllByRecursion (λ o. length o ≡ suc n) (led_from rest ns s m)
turns-led_from n rest ns each s zero h = tt
turns-led_from n rest ns each s (suc m) h = joined (λ o. length o ≡ suc n) (led_by rest ns s) (led_from rest ns (suc s) m) (go (eqb (get_or ns s 0) 0) refl) (turns-led_from n rest ns each (suc s) m (omega (arith, h)))
  where
    go : (b : Bool) → eqb (get_or ns s 0) 0 ≡ b → AllByRecursion (λ o. length o ≡ suc n) (cond b [] (map (λ o. s ∷ o) (rest (without ns s))))
    go true e = tt
    go false e = longer n s (rest (without ns s)) (each s (omega (arith, h)) (omega (arith, eqb-false (get_or ns s 0) 0 e)))

turns-ordered : (n : ℕ) (ns : List ℕ) → sum ns ≡ n → AllByRecursion (λ o. length o ≡ n) (ordered n ns)
turns-ordered zero ns e = (refl, tt)
turns-ordered (suc n) ns e = turns-led_from n (ordered n) ns (λ s h p. turns-ordered n (without ns s) (omega (arith, e, sum-without ns s h p))) 0 (length ns) (omega arith)

pub turns_each : (ns : List ℕ) → All (λ o. length o ≡ sum ns) (interleavings ns)
unfolding interleavings
turns_each ns = All-from_recursion (λ o. length o ≡ sum ns) (ordered (sum ns) ns) (turns-ordered (sum ns) ns refl)

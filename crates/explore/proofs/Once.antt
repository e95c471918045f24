-- Every interleaving is in the list once, and nothing else is.
use Rattle.std.proofs.Common.{◌≡◌, refl, sym, ap, ◌∙◌, subst, ℕ, zero, suc, ◌+◌, ◌-◌, ◌<◌, ◌≤◌, ◌⊎◌, inl, inr, Bool, true, false, cond, eqb, List, [], ◌∷◌, ◌++◌, map, length, get_or, sum, arith}
use Rattle.std.proofs.lemmas.Bool.{eq-eqb, ne_eqb, cases_eq, cases_lt, cond-true}
use Rattle.std.proofs.lemmas.List.{get_or-set_same, get_or-set_other, get_or_past}
use Rattle.explore.specs.Interleavings.{IsInterleaving, turns, without, led_by, led_from, ordered, occurrences}
use Rattle.explore.proofs.Factorials.{sum-cons, sum-without, get_or-le-sum}

-- ---- occurrences

occurrences-append : (o : List ℕ) (xs ys : List (List ℕ)) → occurrences o (xs ++ ys) ≡ occurrences o xs + occurrences o ys
occurrences-append o [] ys = omega arith
occurrences-append o (x ∷ xs) ys = omega (arith, occurrences-append o xs ys)

occurrences-none : (s : ℕ) (xs : List (List ℕ)) → occurrences [] (map (λ o. s ∷ o) xs) ≡ 0
occurrences-none s [] = refl
occurrences-none s (x ∷ xs) = omega (arith, occurrences-none s xs)

occurrences-led : (s : ℕ) (o : List ℕ) (xs : List (List ℕ)) → occurrences (s ∷ o) (map (λ p. s ∷ p) xs) ≡ occurrences o xs
occurrences-led s o [] = refl
occurrences-led s o (x ∷ xs) = let t : eqb s s ≡ true = eq-eqb s s refl in
    rw (t, occurrences-led s o xs) refl

occurrences-other : (s t : ℕ) (o : List ℕ) (xs : List (List ℕ)) → (s ≡ t → ⊥) → occurrences (t ∷ o) (map (λ p. s ∷ p) xs) ≡ 0
occurrences-other s t o [] n = refl
occurrences-other s t o (x ∷ xs) n = let e : eqb s t ≡ false = ne_eqb s t n in
    rw (e, occurrences-other s t o xs n) refl

occurrences-nothing : (o : List ℕ) (b : Bool) (xs : List (List ℕ)) → b ≡ true → occurrences o (cond b [] xs) ≡ 0
occurrences-nothing o b xs e = let z : cond b [] xs ≡ [] = cond-true b [] xs e in rw z refl

module _ (rest : List ℕ → List (List ℕ)) (ns : List ℕ) where
  led_by-empty : (s : ℕ) → occurrences [] (led_by rest ns s) ≡ 0
  led_by-empty s = go (eqb (get_or ns s 0) 0)
    where
      go : (b : Bool) → occurrences [] (cond b [] (map (λ o. s ∷ o) (rest (without ns s)))) ≡ 0
      go true = refl
      go false = occurrences-none s (rest (without ns s))

  led_by-other : (s t : ℕ) (o : List ℕ) → (s ≡ t → ⊥) → occurrences (t ∷ o) (led_by rest ns s) ≡ 0
  led_by-other s t o n = go (eqb (get_or ns s 0) 0)
    where
      go : (b : Bool) → occurrences (t ∷ o) (cond b [] (map (λ p. s ∷ p) (rest (without ns s)))) ≡ 0
      go true = refl
      go false = occurrences-other s t o (rest (without ns s)) n

  led_by-none : (s : ℕ) (o : List ℕ) → get_or ns s 0 ≡ 0 → occurrences o (led_by rest ns s) ≡ 0
  led_by-none s o z = occurrences-nothing o (eqb (get_or ns s 0) 0) (map (λ p. s ∷ p) (rest (without ns s))) (eq-eqb (get_or ns s 0) 0 z)

  led_by-same : (s : ℕ) (o : List ℕ) → 0 < get_or ns s 0 → occurrences (s ∷ o) (led_by rest ns s) ≡ occurrences o (rest (without ns s))
  led_by-same s o p = ap (λ b. occurrences (s ∷ o) (cond b [] (map (λ q. s ∷ q) (rest (without ns s))))) (ne_eqb (get_or ns s 0) 0 (λ z. absurd (omega (arith, p, z)))) ∙ occurrences-led s o (rest (without ns s))

  led_from-empty : (s m : ℕ) → occurrences [] (led_from rest ns s m) ≡ 0
  led_from-empty s zero = refl
  led_from-empty s (suc m) = occurrences-append [] (led_by rest ns s) (led_from rest ns (suc s) m) ∙ omega (arith, led_by-empty s, led_from-empty (suc s) m)

  led_from-later : (s m t : ℕ) (o : List ℕ) → t < s → occurrences (t ∷ o) (led_from rest ns s m) ≡ 0
  led_from-later s zero t o h = refl
  led_from-later s (suc m) t o h = occurrences-append (t ∷ o) (led_by rest ns s) (led_from rest ns (suc s) m) ∙ omega (arith, led_by-other s t o (λ e. omega (arith, e, h)), led_from-later (suc s) m t o (omega (arith, h)))

  led_from-earlier : (s m t : ℕ) (o : List ℕ) → s + m ≤ t → occurrences (t ∷ o) (led_from rest ns s m) ≡ 0
  led_from-earlier s zero t o h = refl
  led_from-earlier s (suc m) t o h = occurrences-append (t ∷ o) (led_by rest ns s) (led_from rest ns (suc s) m) ∙ omega (arith, led_by-other s t o (λ e. omega (arith, e, h)), led_from-earlier (suc s) m t o (omega (arith, h)))

  led_from-idle : (s m t : ℕ) (o : List ℕ) → get_or ns t 0 ≡ 0 → occurrences (t ∷ o) (led_from rest ns s m) ≡ 0
  led_from-idle s zero t o z = refl
  led_from-idle s (suc m) t o z = occurrences-append (t ∷ o) (led_by rest ns s) (led_from rest ns (suc s) m) ∙ omega (arith, here (cases_eq s t), led_from-idle (suc s) m t o z)
    where
      here : (s ≡ t) ⊎ (s ≡ t → ⊥) → occurrences (t ∷ o) (led_by rest ns s) ≡ 0
      here (inl e) = led_by-none s (t ∷ o) (ap (λ x. get_or ns x 0) e ∙ z)
      here (inr n) = led_by-other s t o n

  led_from-same : (s m t : ℕ) (o : List ℕ) → s ≤ t → t < s + m → 0 < get_or ns t 0 → occurrences (t ∷ o) (led_from rest ns s m) ≡ occurrences o (rest (without ns t))
  led_from-same s zero t o h k p = absurd (omega (arith, h, k))
  led_from-same s (suc m) t o h k p = occurrences-append (t ∷ o) (led_by rest ns s) (led_from rest ns (suc s) m) ∙ split (cases_eq s t) (led_from-same (suc s) m t o)
    where
      split : (s ≡ t) ⊎ (s ≡ t → ⊥) → (suc s ≤ t → t < suc s + m → 0 < get_or ns t 0 → occurrences (t ∷ o) (led_from rest ns (suc s) m) ≡ occurrences o (rest (without ns t))) →
          occurrences (t ∷ o) (led_by rest ns s) + occurrences (t ∷ o) (led_from rest ns (suc s) m) ≡ occurrences o (rest (without ns t))
      split (inl e) later =
          let a : occurrences (t ∷ o) (led_by rest ns s) ≡ occurrences o (rest (without ns t)) = ap (λ x. occurrences (t ∷ o) (led_by rest ns x)) e ∙ led_by-same t o p in
          omega (arith, a, led_from-later (suc s) m t o (omega (arith, e)))
      split (inr n) later = omega (arith, led_by-other s t o n, later (omega (arith, h, n)) (omega (arith, k)) p)

-- ---- all of n lines

idle_sum : (ns : List ℕ) → ((s : ℕ) → get_or ns s 0 ≡ 0) → sum ns ≡ 0
idle_sum [] h = refl
idle_sum (n ∷ ns) h = omega (arith, sum-cons n ns, h 0, idle_sum ns (λ s. h (suc s)))

idle : (ns : List ℕ) → sum ns ≡ 0 → (s : ℕ) → get_or ns s 0 ≡ 0
idle ns e s = go (cases_lt s (length ns))
  where
    go : (s < length ns) ⊎ (length ns ≤ s) → get_or ns s 0 ≡ 0
    go (inl h) = omega (arith, get_or-le-sum ns s h, e)
    go (inr h) = get_or_past ns s 0 h

has : (ns : List ℕ) (s : ℕ) → 0 < get_or ns s 0 → s < length ns
has ns s p = go (cases_lt s (length ns))
  where
    go : (s < length ns) ⊎ (length ns ≤ s) → s < length ns
    go (inl h) = h
    go (inr h) = absurd (omega (arith, p, get_or_past ns s 0 h))

turns-same : (s : ℕ) (o : List ℕ) → turns s (s ∷ o) ≡ suc (turns s o)
turns-same s o = ap (λ b. cond b 1 0 + turns s o) (eq-eqb s s refl) ∙ omega arith

turns-other : (s x : ℕ) (o : List ℕ) → (x ≡ s → ⊥) → turns s (x ∷ o) ≡ turns s o
turns-other s x o n = ap (λ b. cond b 1 0 + turns s o) (ne_eqb x s n) ∙ omega arith

-- an interleaving without its first turn
tail_of : (ns : List ℕ) (x : ℕ) (o : List ℕ) → IsInterleaving ns (x ∷ o) → (0 < get_or ns x 0) × IsInterleaving (without ns x) o
tail_of ns x o i = (led, λ s. go s (cases_eq x s))
  where
    led : 0 < get_or ns x 0
    led = omega (arith, i x, turns-same x o)

    go : (s : ℕ) → (x ≡ s) ⊎ (x ≡ s → ⊥) → turns s o ≡ get_or (without ns x) s 0
    go s (inl e) = subst (λ y. turns y o ≡ get_or (without ns x) y 0) e
        (omega (arith, i x, turns-same x o, get_or-set_same ns x (get_or ns x 0 - 1) 0 (has ns x led)))
    go s (inr n) = omega (arith, i s, turns-other s x o n, get_or-set_other ns x s (get_or ns x 0 - 1) 0 (λ e. n (sym e)))

with_first : (ns : List ℕ) (x : ℕ) (o : List ℕ) → 0 < get_or ns x 0 → IsInterleaving (without ns x) o → IsInterleaving ns (x ∷ o)
with_first ns x o led i s = go (cases_eq x s)
  where
    go : (x ≡ s) ⊎ (x ≡ s → ⊥) → turns s (x ∷ o) ≡ get_or ns s 0
    go (inl e) = subst (λ y. turns y (x ∷ o) ≡ get_or ns y 0) e
        (omega (arith, i x, turns-same x o, get_or-set_same ns x (get_or ns x 0 - 1) 0 (has ns x led), led))
    go (inr n) = omega (arith, i s, turns-other s x o n, get_or-set_other ns x s (get_or ns x 0 - 1) 0 (λ e. n (sym e)))

pub once : (n : ℕ) (ns o : List ℕ) → sum ns ≡ n → IsInterleaving ns o → occurrences o (ordered n ns) ≡ 1
once zero ns [] e i = refl
once zero ns (x ∷ o) e i = absurd (omega (arith, (tail_of ns x o i).0, idle ns e x))
once (suc n) ns [] e i = absurd (omega (arith, e, idle_sum ns (λ s. sym (i s))))
once (suc n) ns (x ∷ o) e i =
    let t : (0 < get_or ns x 0) × IsInterleaving (without ns x) o = tail_of ns x o i in
    let h : x < length ns = has ns x t.0 in
    led_from-same (ordered n) ns 0 (length ns) x o (omega arith) (omega (arith, h)) t.0
    ∙ once n (without ns x) o (omega (arith, e, sum-without ns x h t.0)) t.1

pub only : (n : ℕ) (ns o : List ℕ) → sum ns ≡ n → 0 < occurrences o (ordered n ns) → IsInterleaving ns o
only zero ns [] e p = λ s. sym (idle ns e s)
only zero ns (x ∷ o) e p = absurd (omega (arith, p))
only (suc n) ns [] e p = absurd (omega (arith, p, led_from-empty (ordered n) ns 0 (length ns)))
only (suc n) ns (x ∷ o) e p = go (cases_lt 0 (get_or ns x 0)) (only n (without ns x) o)
  where
    go : (0 < get_or ns x 0) ⊎ (get_or ns x 0 ≤ 0) → (sum (without ns x) ≡ n → 0 < occurrences o (ordered n (without ns x)) → IsInterleaving (without ns x) o) → IsInterleaving ns (x ∷ o)
    go (inr z) rest = absurd (omega (arith, p, led_from-idle (ordered n) ns 0 (length ns) x o (omega (arith, z))))
    go (inl led) rest = let h : x < length ns = has ns x led in
        with_first ns x o led (rest (omega (arith, e, sum-without ns x h led)) (omega (arith, p, led_from-same (ordered n) ns 0 (length ns) x o (omega arith) (omega (arith, h)) led)))

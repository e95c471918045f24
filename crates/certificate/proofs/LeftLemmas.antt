-- The ways that are left of a transaction, one by one; and places, from the last on.
use Rattle.std.proofs.Common.{◌≡◌, refl, sym, ap, ◌∙◌, ℕ, zero, suc, ◌+◌, ◌<◌, ◌≤◌, Bool, true, false, not, ◌&&◌, ◌||◌, if◌then◌else◌, List, [], ◌∷◌, ◌++◌, length, get_or, drop, append_assoc, append-nil, arith}
use Rattle.std.proofs.lemmas.List.{drop_more}
use Rattle.std.specs.List.{filter, list_all, list_any}
use Rattle.certificate.specs.Board.{Board}
use Rattle.certificate.specs.Knowledge as known
use Rattle.certificate.specs.Knowledge.{Known, places_below}

module _ {W S P : Type 0} (b : Board W S P) (k : Known S P) (x : ℕ) (s : P) where
  rest : List W → ℕ → List W
  rest ws i = known.left_from b k x s i (drop i ws)

  -- the rest of the ways, and those after the next one
  left-more : (ws : List W) (i : ℕ) (w : W) → i < length ws → w ≡ get_or ws i w
      → known.left_from b k x s i (drop i ws) ≡ (if known.is_excluded b k x s i then known.left_from b k x s (i + 1) (drop (i + 1) ws) else w ∷ known.left_from b k x s (i + 1) (drop (i + 1) ws))
  left-more ws i w l e =
      ap (known.left_from b k x s i) (drop_more ws i w l)
      ∙ ap (λ v. if known.is_excluded b k x s i then known.left_from b k x s (suc i) (drop (i + 1) ws) else v ∷ known.left_from b k x s (suc i) (drop (i + 1) ws)) (sym e)
      ∙ ap (λ n. if known.is_excluded b k x s i then known.left_from b k x s n (drop (i + 1) ws) else w ∷ known.left_from b k x s n (drop (i + 1) ws)) (let p : suc i ≡ i + 1 = omega arith in p)

  pub left-none : (ws : List W) (n i : ℕ) → length ws ≤ i → known.left_from b k x s n (drop i ws) ≡ []
  left-none [] n zero l = refl
  left-none [] n (suc i) l = refl
  left-none (w ∷ ws) n zero l = absurd (omega arith)
  left-none (w ∷ ws) n (suc i) l = left-none ws n i (omega (arith, l))

  module _ (q : W → Bool) where
    by-all : (o : Bool) (w : W) (ws : List W) (t : Bool) → (o || q w) ≡ t → (t ≡ true → list_all q (if o then ws else w ∷ ws) ≡ list_all q ws) × (t ≡ false → list_all q (if o then ws else w ∷ ws) ≡ false)
    by-all true w ws t e = (λ y. refl, λ y. absurd (nonsense (e ∙ y)))
      where
        nonsense : true ≡ false → ⊥
        nonsense p = cc
    by-all false w ws t e = (λ y. ap (λ c. c && list_all q ws) (e ∙ y), λ y. ap (λ c. c && list_all q ws) (e ∙ y))

    pub all-more : (ws : List W) (i : ℕ) (w : W) → i < length ws → w ≡ get_or ws i w → (known.is_excluded b k x s i || q w) ≡ true
        → list_all q (known.left_from b k x s i (drop i ws)) ≡ list_all q (known.left_from b k x s (i + 1) (drop (i + 1) ws))
    all-more ws i w l e h =
        ap (list_all q) (left-more ws i w l e) ∙ (by-all (known.is_excluded b k x s i) w (known.left_from b k x s (i + 1) (drop (i + 1) ws)) true h).0 refl

    pub all-not : (ws : List W) (i : ℕ) (w : W) → i < length ws → w ≡ get_or ws i w → (known.is_excluded b k x s i || q w) ≡ false
        → list_all q (known.left_from b k x s i (drop i ws)) ≡ false
    all-not ws i w l e h =
        ap (list_all q) (left-more ws i w l e) ∙ (by-all (known.is_excluded b k x s i) w (known.left_from b k x s (i + 1) (drop (i + 1) ws)) false h).1 refl

    pub all-end : (ws : List W) (i : ℕ) → length ws ≤ i → list_all q (known.left_from b k x s i (drop i ws)) ≡ true
    all-end ws i l = ap (list_all q) (left-none ws i i l)

    by-any : (o : Bool) (w : W) (ws : List W) (t : Bool) → (not o && q w) ≡ t → (t ≡ true → list_any q (if o then ws else w ∷ ws) ≡ true) × (t ≡ false → list_any q (if o then ws else w ∷ ws) ≡ list_any q ws)
    by-any true w ws t e = (λ y. absurd (nonsense (e ∙ y)), λ y. refl)
      where
        nonsense : false ≡ true → ⊥
        nonsense p = cc
    by-any false w ws t e = (λ y. ap (λ c. c || list_any q ws) (e ∙ y), λ y. ap (λ c. c || list_any q ws) (e ∙ y))

    pub any-one : (ws : List W) (i : ℕ) (w : W) → i < length ws → w ≡ get_or ws i w → (not (known.is_excluded b k x s i) && q w) ≡ true
        → list_any q (known.left_from b k x s i (drop i ws)) ≡ true
    any-one ws i w l e h =
        ap (list_any q) (left-more ws i w l e) ∙ (by-any (known.is_excluded b k x s i) w (known.left_from b k x s (i + 1) (drop (i + 1) ws)) true h).0 refl

    pub any-more : (ws : List W) (i : ℕ) (w : W) → i < length ws → w ≡ get_or ws i w → (not (known.is_excluded b k x s i) && q w) ≡ false
        → list_any q (known.left_from b k x s i (drop i ws)) ≡ list_any q (known.left_from b k x s (i + 1) (drop (i + 1) ws))
    any-more ws i w l e h =
        ap (list_any q) (left-more ws i w l e) ∙ (by-any (known.is_excluded b k x s i) w (known.left_from b k x s (i + 1) (drop (i + 1) ws)) false h).1 refl

    pub any-end : (ws : List W) (i : ℕ) → length ws ≤ i → list_any q (known.left_from b k x s i (drop i ws)) ≡ false
    any-end ws i l = ap (list_any q) (left-none ws i i l)

  by-copy : (o : Bool) (items : List W) (w : W) (ws : List W) → (if o then items else items ++ w ∷ []) ++ ws ≡ items ++ (if o then ws else w ∷ ws)
  by-copy true items w ws = refl
  by-copy false items w ws = append_assoc items (w ∷ []) ws

  -- the ways that were copied, and the rest
  pub copy-more : (ws : List W) (i : ℕ) (w : W) (o : Bool) (items more : List W) → i < length ws → w ≡ get_or ws i w → o ≡ known.is_excluded b k x s i → more ≡ (if o then items else items ++ w ∷ [])
      → more ++ known.left_from b k x s (i + 1) (drop (i + 1) ws) ≡ items ++ known.left_from b k x s i (drop i ws)
  copy-more ws i w o items more l e h m =
      ap (λ list. list ++ known.left_from b k x s (i + 1) (drop (i + 1) ws)) m
      ∙ by-copy o items w (known.left_from b k x s (i + 1) (drop (i + 1) ws))
      ∙ ap (λ t. items ++ (if t then known.left_from b k x s (i + 1) (drop (i + 1) ws) else w ∷ known.left_from b k x s (i + 1) (drop (i + 1) ws))) h
      ∙ ap (λ list. items ++ list) (sym (left-more ws i w l e))

-- ---- places

by-push : (o : Bool) (items : List ℕ) (n : ℕ) (ns : List ℕ) → (if o then items ++ n ∷ [] else items) ++ ns ≡ items ++ (if o then n ∷ ns else ns)
by-push true items n ns = append_assoc items (n ∷ []) ns
by-push false items n ns = refl

-- the places that were put in, and those below
pub places-more : (p : ℕ → Bool) (n m : ℕ) (o : Bool) (items more : List ℕ) → n ≡ suc m → o ≡ p m → more ≡ (if o then items ++ m ∷ [] else items)
    → more ++ filter p (places_below m) ≡ items ++ filter p (places_below n)
places-more p n m o items more e h is =
    ap (λ list. list ++ filter p (places_below m)) is
    ∙ by-push o items m (filter p (places_below m))
    ∙ ap (λ t. items ++ (if t then m ∷ filter p (places_below m) else filter p (places_below m))) h
    ∙ ap (λ z. items ++ filter p (places_below z)) (sym e)

pub places-done : (p : ℕ → Bool) (n : ℕ) (items total : List ℕ) → n ≤ 0 → items ++ filter p (places_below n) ≡ total → items ≡ total
places-done p zero items total l e = sym (append-nil items) ∙ e
places-done p (suc n) items total l e = absurd (omega (arith, l))

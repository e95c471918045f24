-- A permutation of what stands in a list moves its places.
use Rattle.std.proofs.Common.{◌≡◌, refl, sym, ap, subst, ◌∙◌, ℕ, zero, suc, ◌+◌, ◌<◌, ◌≤◌, Bool, true, false, true≢false, ◌||◌, inl, inr, List, [], ◌∷◌, length, map, eqb, get_or, slice_get, slice_set, Option, Some, None, arith}
use Rattle.std.proofs.lemmas.Bool.{eqb-true, eqb-false}
use Rattle.std.proofs.lemmas.List.{map-set}
use Rattle.std.proofs.Math.ListN.{get_or-map}
use Rattle.std.proofs.lemmas.List.Sorted.{list_any-IsPermutation}
use Rattle.std.proofs.lemmas.Map.Keys.{IsDistinct-IsPermutation}
use Rattle.std.proofs.lemmas.Option.{same_Some}
use Rattle.std.specs.List.{AllByRecursion, IsDistinct, filter_map, list_any, swap}
use Rattle.std.specs.List.Sorted.{IsPermutation, SwapsInRange, apply_swaps}
use Rattle.value.proofs.IsolationLemmas.{In}
use Rattle.value.proofs.Basics.{lt-eqb, eqb_comm}
use Rattle.orders.specs.Explains.{AreApart, Stands}

module _ {X Y : Type 0} (f : X → Y) where
  map_swap : (xs : List X) (i j : ℕ) → map f (swap xs i j) ≡ swap (map f xs) i j
  map_swap [] i j = refl
  map_swap (d ∷ ys) i j =
      map-set f (slice_set (d ∷ ys) i (get_or (d ∷ ys) j d)) j (get_or (d ∷ ys) i d)
      ∙ ap (λ l. slice_set l j (f (get_or (d ∷ ys) i d))) (map-set f (d ∷ ys) i (get_or (d ∷ ys) j d) ∙ ap (slice_set (map f (d ∷ ys)) i) (sym (get_or-map f (d ∷ ys) j d)))
      ∙ ap (slice_set (slice_set (map f (d ∷ ys)) i (get_or (map f (d ∷ ys)) j (f d))) j) (sym (get_or-map f (d ∷ ys) i d))

  map_swaps : (xs : List X) (ps : List (ℕ × ℕ)) → map f (apply_swaps xs ps) ≡ apply_swaps (map f xs) ps
  map_swaps xs [] = refl
  map_swaps xs (p ∷ ps) = map_swap (apply_swaps xs ps) p.0 p.1 ∙ ap (λ l. swap l p.0 p.1) (map_swaps xs ps)

-- ---- places that differ, and those that stand in a list

others : (i : ℕ) (places : List ℕ) → AllByRecursion (λ j. eqb i j ≡ false) places → AllByRecursion (λ j. j ≡ i → ⊥) places
others i [] h = tt
others i (j ∷ places) h = (λ e. eqb-false i j h.0 (sym e), others i places h.1)

apart : (places : List ℕ) → IsDistinct eqb places → AreApart places
unfolding IsDistinct
apart [] d = tt
apart (i ∷ places) d = (others i places d.0, apart places d.1)

stands : (i : ℕ) (places : List ℕ) → list_any (eqb i) places ≡ true → Stands i places
stands i [] e = absurd (true≢false (sym e))
stands i (j ∷ places) e = go (eqb i j) refl (stands i places) e
  where
    go : (b : Bool) → eqb i j ≡ b → (list_any (eqb i) places ≡ true → Stands i places) → (b || list_any (eqb i) places) ≡ true → Stands i (j ∷ places)
    go true q rest h = inl (eqb-true i j q)
    go false q rest h = inr (rest h)

-- what stands at places is what was asked for, one by one
pub heads : {Y : Type 0} (o : Option Y) (os : List (Option Y)) (y : Y) (ys : List Y) → o ∷ os ≡ map Some (y ∷ ys) → (o ≡ Some y) × (os ≡ map Some ys)
heads o os y ys e = (cc, cc)

-- what stands in a list, without the gaps
abbrev pub standing : {X : Type 0} → List (Option X) → List X
standing os = filter_map (λ o. o) os

module _ {X : Type 0} where
  -- the places of what stands in a list, counted from n on
  abbrev places_from : ℕ → List (Option X) → List ℕ
  places_from n [] = []
  places_from n (None ∷ os) = places_from (suc n) os
  places_from n (Some x ∷ os) = n ∷ places_from (suc n) os

  length_places : (n : ℕ) (os : List (Option X)) → length (places_from n os) ≡ length (standing os)
  length_places n [] = refl
  length_places n (None ∷ os) = length_places (suc n) os
  length_places n (Some x ∷ os) = ap suc (length_places (suc n) os)

  read_places : (f : ℕ → Option (Option X)) (n : ℕ) (os : List (Option X)) → ((k : ℕ) → f (n + k) ≡ slice_get os k) → map f (places_from n os) ≡ map Some (map Some (standing os))
  read_places f n [] h = refl
  read_places f n (None ∷ os) h = read_places f (suc n) os (λ k. let next : suc n + k ≡ n + suc k = omega arith in ap f next ∙ h (suc k))
  read_places f n (Some x ∷ os) h =
      let here : n ≡ n + 0 = omega arith in
      ap (λ o. o ∷ map f (places_from (suc n) os)) (ap f here ∙ h 0) ∙ ap (λ l. Some (Some x) ∷ l) (read_places f (suc n) os (λ k. let next : suc n + k ≡ n + suc k = omega arith in ap f next ∙ h (suc k)))

  after_places : (i n : ℕ) (os : List (Option X)) → i < n → AllByRecursion (λ j. eqb i j ≡ false) (places_from n os)
  after_places i n [] l = tt
  after_places i n (None ∷ os) l = after_places i (suc n) os (omega (arith, l))
  after_places i n (Some x ∷ os) l = (lt-eqb i n l, after_places i (suc n) os (omega (arith, l)))

  distinct_places : (n : ℕ) (os : List (Option X)) → IsDistinct eqb (places_from n os)
  unfolding IsDistinct
  distinct_places n [] = tt
  distinct_places n (None ∷ os) = distinct_places (suc n) os
  distinct_places n (Some x ∷ os) = (after_places n (suc n) os (omega arith), distinct_places (suc n) os)

  any_place : (k n : ℕ) (os : List (Option X)) (x : X) → slice_get os k ≡ Some (Some x) → list_any (eqb (n + k)) (places_from n os) ≡ true
  any_place k n [] x e = cc
  any_place zero n (None ∷ os) x e = cc
  any_place (suc k) n (None ∷ os) x e = let next : suc n + k ≡ n + suc k = omega arith in subst (λ i. list_any (eqb i) (places_from (suc n) os) ≡ true) next (any_place k (suc n) os x e)
  any_place zero n (Some y ∷ os) x e = go (eqb (n + 0) n) refl
    where
      go : (b : Bool) → eqb (n + 0) n ≡ b → (b || list_any (eqb (n + 0)) (places_from (suc n) os)) ≡ true
      go true q = refl
      go false q = let same : n + 0 ≡ n = omega arith in absurd (eqb-false (n + 0) n q same)
  any_place (suc k) n (Some y ∷ os) x e = let next : suc n + k ≡ n + suc k = omega arith in go (eqb (n + suc k) n) (subst (λ i. list_any (eqb i) (places_from (suc n) os) ≡ true) next (any_place k (suc n) os x e))
    where
      go : (b : Bool) → list_any (eqb (n + suc k)) (places_from (suc n) os) ≡ true → (b || list_any (eqb (n + suc k)) (places_from (suc n) os)) ≡ true
      go true rest = refl
      go false rest = rest

  -- Where the elements of ys stand in a list, each place once.
  pub record Placed (os : List (Option X)) (ys : List X) : Type 0 where
    pub places : List ℕ
    pub stand : map (slice_get os) places ≡ map Some (map Some ys)
    pub are_apart : AreApart places
    pub each : (i : ℕ) (x : X) → slice_get os i ≡ Some (Some x) → Stands i places

  pub placed : (os : List (Option X)) (ys : List X) → IsPermutation (standing os) ys → Placed os ys
  placed os ys p = record {
    places = moved;
    stand =
        map_swaps (slice_get os) (places_from 0 os) p.moves
        ∙ ap (λ l. apply_swaps l p.moves) (read_places (slice_get os) 0 os (λ k. let same : 0 + k ≡ k = omega arith in ap (slice_get os) same))
        ∙ sym (map_swaps Some (map Some (standing os)) p.moves)
        ∙ ap (map Some) (sym (map_swaps Some (standing os) p.moves))
        ∙ ap (λ l. map Some (map Some l)) (sym p.is);
    are_apart = apart moved (IsDistinct-IsPermutation eqb eqb_comm (places_from 0 os) moved moves (distinct_places 0 os));
    each = λ i x e. stands i moved (sym (list_any-IsPermutation (eqb i) (places_from 0 os) moved moves) ∙ (let same : 0 + i ≡ i = omega arith in subst (λ k. list_any (eqb k) (places_from 0 os) ≡ true) same (any_place i 0 os x e)));
  }
    where
      moved : List ℕ
      moved = apply_swaps (places_from 0 os) p.moves

      moves : IsPermutation (places_from 0 os) moved
      moves = record { moves = p.moves; below = subst (λ n. SwapsInRange n p.moves) (sym (length_places 0 os)) p.below; is = refl }

  -- ---- what stands at places

  pub In-standing : (os : List (Option X)) (i : ℕ) (x : X) → slice_get os i ≡ Some (Some x) → In x (standing os)
  In-standing [] i x e = cc
  In-standing (None ∷ os) zero x e = cc
  In-standing (None ∷ os) (suc i) x e = In-standing os i x e
  In-standing (Some y ∷ os) zero x e = let same : y ≡ x = cc in inl (sym same)
  In-standing (Some y ∷ os) (suc i) x e = inr (In-standing os i x e)

  from_places : (os : List (Option X)) (places : List ℕ) (ys : List X) (y : X) → map (slice_get os) places ≡ map Some (map Some ys) → In y ys → In y (standing os)
  from_places os places [] y e i = absurd i
  from_places os [] (z ∷ ys) y e i = cc
  from_places os (k ∷ places) (z ∷ ys) y e (inl q) = In-standing os k y ((heads (slice_get os k) (map (slice_get os) places) (Some z) (map Some ys) e).0 ∙ ap (λ x. Some (Some x)) (sym q))
  from_places os (k ∷ places) (z ∷ ys) y e (inr i) = from_places os places ys y (heads (slice_get os k) (map (slice_get os) places) (Some z) (map Some ys) e).1 i

  -- where there are no gaps
  pub standing_all : (xs : List X) → standing (map Some xs) ≡ xs
  standing_all [] = refl
  standing_all (x ∷ xs) = ap (λ l. x ∷ l) (standing_all xs)

  without_gaps : (xs : List X) (i : ℕ) (x : X) → slice_get (map Some xs) i ≡ Some (Some x) → slice_get xs i ≡ Some x
  without_gaps [] i x e = cc
  without_gaps (y ∷ ys) zero x e = let same : y ≡ x = cc in ap Some same
  without_gaps (y ∷ ys) (suc i) x e = without_gaps ys i x e

  pub stand_without_gaps : (xs : List X) (places : List ℕ) (ys : List X) → map (slice_get (map Some xs)) places ≡ map Some (map Some ys) → map (slice_get xs) places ≡ map Some ys
  stand_without_gaps xs [] [] e = refl
  stand_without_gaps xs [] (y ∷ ys) e = cc
  stand_without_gaps xs (i ∷ places) [] e = cc
  stand_without_gaps xs (i ∷ places) (y ∷ ys) e =
      let at = heads (slice_get (map Some xs) i) (map (slice_get (map Some xs)) places) (Some y) (map Some ys) e in
      ap (λ o. o ∷ map (slice_get xs) places) (without_gaps xs i y at.0) ∙ ap (λ os. Some y ∷ os) (stand_without_gaps xs places ys at.1)

  -- a permutation has no other elements
  pub In-permuted : (xs ys : List X) (y : X) → IsPermutation xs ys → In y ys → In y xs
  In-permuted xs ys y p i =
      let q = placed (map Some xs) ys (subst (λ l. IsPermutation l ys) (sym (standing_all xs)) p) in
      subst (In y) (standing_all xs) (from_places (map Some xs) q.places ys y q.stand i)

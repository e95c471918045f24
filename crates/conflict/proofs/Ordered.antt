-- Numbers in their order, and what stands by a number: found by halves, put in and taken out.
use Rattle.std.proofs.Common.{◌≡◌, refl, sym, ap, ◌∙◌, ℕ, zero, suc, ◌<◌, ◌≤◌, Bool, true, false, true≢false, cond, not, ◌||◌, List, [], ◌∷◌, length, take, drop, get_or, eqb, nat_lt, arith}
use Rattle.std.proofs.lemmas.Bool.{eqb-true, or_left, or_right}
use Rattle.std.proofs.lemmas.Bool.Decides.{nat_tests}
use Rattle.std.specs.Prelude.{slice_get}
use Rattle.std.specs.Option.{option_map_or}
use Rattle.std.specs.List.{AllWithin, filter, insert, list_any, remove}
use Rattle.std.specs.List.Sorted.{IsPartitionedBy}
use Rattle.value.proofs.Basics.{eqb-self, gt-eqb}
use Rattle.conflict.specs.Tracked.{Ascending, Each, Party, Rising, is_among, put_in}
use Rattle.conflict.specs.Undo.{IsGap, IsPlace}
use Rattle.conflict.specs.Tracked.{without}
use Rattle.value.proofs.Lists.{clash}

-- ---- comparisons

lt_not_eq : (a b : ℕ) → nat_lt a b ≡ true → eqb a b ≡ false
lt_not_eq a b e = grind (arith, nat_tests)

past : (a b : ℕ) → nat_lt a b ≡ false → eqb a b ≡ false → b < a
past a b e f = grind (arith, nat_tests)

before_step : (a b n : ℕ) → a < b → nat_lt b n ≡ true → nat_lt a n ≡ true
before_step a b n lt e = grind (arith, nat_tests)

-- ---- where a number turns

module _ {X : Type 0} (key : X → ℕ) where
  -- each key above those before it
  abbrev pub Pairs : List X → Type 0
  Pairs [] = Unit {0}
  Pairs (x ∷ xs) = Each (λ y. key x < key y) xs × Pairs xs

  each-at : (P : X → Type 0) (xs : List X) (i : ℕ) (d : X) → i < length xs → Each P xs → P (get_or xs i d)
  each-at P [] i d lt all = absurd (omega arith)
  each-at P (x ∷ xs) zero d lt all = all.0
  each-at P (x ∷ xs) (suc i) d lt all = each-at P xs i d (omega arith) all.1

  pub partitioned : (n : ℕ) (xs : List X) → Pairs xs → IsPartitionedBy (λ x. nat_lt (key x) n) xs
  partitioned n [] pairs = λ i j d le lt ok. absurd (omega arith)
  partitioned n (x ∷ xs) pairs = go (partitioned n xs pairs.1)
    where
      go : IsPartitionedBy (λ y. nat_lt (key y) n) xs → (i j : ℕ) (d : X) → i ≤ j → j < length (x ∷ xs) → nat_lt (key (get_or (x ∷ xs) j d)) n ≡ true → nat_lt (key (get_or (x ∷ xs) i d)) n ≡ true
      go rest zero zero d le lt passes = passes
      go rest zero (suc j) d le lt passes = before_step (key x) (key (get_or xs j d)) n (each-at (λ y. key x < key y) xs j d (omega arith) pairs.0) passes
      go rest (suc i) zero d le lt passes = absurd (omega arith)
      go rest (suc i) (suc j) d le lt passes = rest i j d (omega arith) (omega arith) passes

  pub each-take : (P : X → Type 0) (i : ℕ) (xs : List X) → i ≤ length xs → AllWithin P xs 0 i → Each P (take i xs)
  each-take P zero xs le h = tt
  each-take P (suc i) [] le h = tt
  each-take P (suc i) (x ∷ xs) le h = (h 0 x (omega arith) (omega arith), each-take P i xs (omega arith) (λ k d low high. h (suc k) d (omega arith) (omega arith)))

  pub each-drop : (P : X → Type 0) (i : ℕ) (xs : List X) → AllWithin P xs i (length xs) → Each P (drop i xs)
  each-drop P zero [] h = tt
  each-drop P zero (x ∷ xs) h = (h 0 x (omega arith) (omega arith), each-drop P zero xs (λ k d low high. h (suc k) d (omega arith) (omega arith)))
  each-drop P (suc i) [] h = tt
  each-drop P (suc i) (x ∷ xs) h = each-drop P i xs (λ k d low high. h (suc k) d (omega arith) (omega arith))

  -- none above n has the key n
  pub none_above : (n m : ℕ) (xs : List X) → n ≤ m → Each (λ y. m < key y) xs → list_any (λ y. eqb (key y) n) xs ≡ false
  none_above n m [] le all = refl
  none_above n m (x ∷ xs) le all = ap (λ b. b || list_any (λ y. eqb (key y) n) xs) (gt-eqb n (key x) (let a = all.0 in omega (arith, a, le))) ∙ none_above n m xs le all.1

  -- none has the key n, where the first from there on hasn't
  pub none_there : (n : ℕ) (xs : List X) (i : ℕ) (d : X) → Pairs xs → Each (λ x. nat_lt (key x) n ≡ true) (take i xs) → Each (λ x. nat_lt (key x) n ≡ false) (drop i xs)
      → (i < length xs → eqb (key (get_or xs i d)) n ≡ false) → list_any (λ y. eqb (key y) n) xs ≡ false
  none_there n [] i d pairs before after not_it = refl
  none_there n (x ∷ xs) zero d pairs before after not_it =
      let gap = past (key x) n after.0 (not_it (omega arith)) in
      ap (λ b. b || list_any (λ y. eqb (key y) n) xs) (not_it (omega arith)) ∙ none_above n (key x) xs (omega (arith, gap)) pairs.0
  none_there n (x ∷ xs) (suc i) d pairs before after not_it =
      ap (λ b. b || list_any (λ y. eqb (key y) n) xs) (lt_not_eq (key x) n before.0) ∙ none_there n xs i d pairs.1 before.1 after (λ lt. not_it (omega (arith, lt)))

pub ascending_pairs : (ns : List ℕ) → Ascending ns → Pairs (λ n. n) ns
ascending_pairs [] a = tt
ascending_pairs (n ∷ ns) a = (a.0, ascending_pairs ns a.1)

pub rising_pairs : (ps : List Party) → Rising ps → Pairs (λ (p : Party). p.number) ps
rising_pairs [] r = tt
rising_pairs (p ∷ ps) r = (r.0, rising_pairs ps r.1)

-- ---- a number put in

pub among_put : (n m : ℕ) (ns : List ℕ) → is_among m (put_in n ns) ≡ (eqb n m || is_among m ns)
among_put n m [] = refl
among_put n m (k ∷ ks) = go (nat_lt k n) (eqb k n) refl (among_put n m ks)
  where
    turned : (a b c : Bool) → (a || (b || c)) ≡ (b || (a || c))
    turned true true c = refl
    turned true false c = refl
    turned false b c = refl

    twice : (a b : Bool) → (a || b) ≡ (a || (a || b))
    twice true b = refl
    twice false b = refl

    go : (a b : Bool) → eqb k n ≡ b → is_among m (put_in n ks) ≡ (eqb n m || is_among m ks) → is_among m (cond a (k ∷ put_in n ks) (cond b (k ∷ ks) (n ∷ k ∷ ks))) ≡ (eqb n m || (eqb k m || is_among m ks))
    go true b e rest = ap (λ z. eqb k m || z) rest ∙ turned (eqb k m) (eqb n m) (is_among m ks)
    go false true e rest = twice (eqb k m) (is_among m ks) ∙ ap (λ j. eqb j m || (eqb k m || is_among m ks)) (eqb-true k n e)
    go false false e rest = refl

pub each_put : (P : ℕ → Type 0) (n : ℕ) (ns : List ℕ) → P n → Each P ns → Each P (put_in n ns)
each_put P n [] h all = (h, tt)
each_put P n (k ∷ ks) h all = go (nat_lt k n) (eqb k n) (each_put P n ks h all.1)
  where
    go : (a b : Bool) → Each P (put_in n ks) → Each P (cond a (k ∷ put_in n ks) (cond b (k ∷ ks) (n ∷ k ∷ ks)))
    go true b rest = (all.0, rest)
    go false true rest = all
    go false false rest = (h, all)

each_above : (n k : ℕ) (ks : List ℕ) → n < k → Each (λ m. k < m) ks → Each (λ m. n < m) ks
each_above n k [] lt all = tt
each_above n k (j ∷ ks) lt all = (let a = all.0 in omega (arith, a, lt), each_above n k ks lt all.1)

pub ascending_put : (n : ℕ) (ns : List ℕ) → Ascending ns → Ascending (put_in n ns)
ascending_put n [] a = (tt, tt)
ascending_put n (k ∷ ks) a = go (nat_lt k n) refl (eqb k n) refl (ascending_put n ks a.1)
  where
    below : nat_lt k n ≡ true → k < n
    below e = grind (arith, nat_tests)

    go : (x : Bool) → nat_lt k n ≡ x → (y : Bool) → eqb k n ≡ y → Ascending (put_in n ks) → Ascending (cond x (k ∷ put_in n ks) (cond y (k ∷ ks) (n ∷ k ∷ ks)))
    go true e y f rest = (each_put (λ m. k < m) n ks (below e) a.0, rest)
    go false e true f rest = a
    go false e false f rest = let gap = past k n e f in ((gap, each_above n k ks gap a.0), a)

pub put_same : (n : ℕ) (ns : List ℕ) → Ascending ns → is_among n ns ≡ true → put_in n ns ≡ ns
put_same n [] a e = absurd (true≢false (sym e))
put_same n (k ∷ ks) a e = go (nat_lt k n) refl (eqb k n) refl e (put_same n ks a.1)
  where
    go : (x : Bool) → nat_lt k n ≡ x → (y : Bool) → eqb k n ≡ y → (y || is_among n ks) ≡ true → (is_among n ks ≡ true → put_in n ks ≡ ks) → cond x (k ∷ put_in n ks) (cond y (k ∷ ks) (n ∷ k ∷ ks)) ≡ k ∷ ks
    go true f true g h rest = clash (eqb k n) g (lt_not_eq k n f)
    go true f false g h rest = ap (λ ms. k ∷ ms) (rest h)
    go false f true g h rest = refl
    go false f false g h rest = let gap = past k n f g in clash (is_among n ks) h (none_above (λ m. m) n k ks (omega (arith, gap)) a.0)

-- ---- a number taken out

pub without_none : (n : ℕ) (ns : List ℕ) → is_among n ns ≡ false → without n ns ≡ ns
without_none n [] e = refl
without_none n (k ∷ ks) e = go (eqb k n) e (without_none n ks)
  where
    go : (b : Bool) → (b || is_among n ks) ≡ false → (is_among n ks ≡ false → without n ks ≡ ks) → cond (not b) (k ∷ without n ks) (without n ks) ≡ k ∷ ks
    go true h rest = absurd (true≢false h)
    go false h rest = ap (λ ms. k ∷ ms) (rest h)

pub among_other : (n m : ℕ) (ns : List ℕ) → eqb n m ≡ false → is_among m (without n ns) ≡ is_among m ns
among_other n m [] e = refl
among_other n m (k ∷ ks) e = go (eqb k n) refl (among_other n m ks e)
  where
    go : (b : Bool) → eqb k n ≡ b → is_among m (without n ks) ≡ is_among m ks → is_among m (cond (not b) (k ∷ without n ks) (without n ks)) ≡ (eqb k m || is_among m ks)
    go true f rest = rest ∙ sym (ap (λ x. x || is_among m ks) (ap (λ j. eqb j m) (eqb-true k n f) ∙ e))
    go false f rest = ap (λ x. eqb k m || x) rest

pub among_still : (n m : ℕ) (ns : List ℕ) → is_among m (without n ns) ≡ true → is_among m ns ≡ true
among_still n m [] e = e
among_still n m (k ∷ ks) e = go (eqb k n) e (among_still n m ks)
  where
    pick : (x : Bool) → (x || is_among m (without n ks)) ≡ true → (is_among m (without n ks) ≡ true → is_among m ks ≡ true) → (x || is_among m ks) ≡ true
    pick true h rest = refl
    pick false h rest = rest h

    go : (b : Bool) → is_among m (cond (not b) (k ∷ without n ks) (without n ks)) ≡ true → (is_among m (without n ks) ≡ true → is_among m ks ≡ true) → (eqb k m || is_among m ks) ≡ true
    go true h rest = or_right (eqb k m) (is_among m ks) (rest h)
    go false h rest = pick (eqb k m) h rest

pub without_twice : (n : ℕ) (ns : List ℕ) → without n (without n ns) ≡ without n ns
without_twice n [] = refl
without_twice n (k ∷ ks) = go (eqb k n) refl (without_twice n ks)
  where
    go : (b : Bool) → eqb k n ≡ b → without n (without n ks) ≡ without n ks → without n (cond (not b) (k ∷ without n ks) (without n ks)) ≡ cond (not b) (k ∷ without n ks) (without n ks)
    go true e rest = rest
    go false e rest = ap (λ b. cond (not b) (k ∷ without n (without n ks)) (without n (without n ks))) e ∙ ap (λ ms. k ∷ ms) rest

pub each_without : (P : ℕ → Type 0) (n : ℕ) (ns : List ℕ) → Each P ns → Each P (without n ns)
each_without P n [] all = tt
each_without P n (k ∷ ks) all = go (eqb k n) (each_without P n ks all.1)
  where
    go : (b : Bool) → Each P (without n ks) → Each P (cond (not b) (k ∷ without n ks) (without n ks))
    go true rest = rest
    go false rest = (all.0, rest)

pub without_put : (n : ℕ) (ns : List ℕ) → is_among n ns ≡ false → without n (put_in n ns) ≡ ns
without_put n [] e = ap (λ b. cond (not b) (n ∷ []) []) (eqb-self n)
without_put n (k ∷ ks) e = go (nat_lt k n) (eqb k n) refl e (without_put n ks)
  where
    go : (x y : Bool) → eqb k n ≡ y → (y || is_among n ks) ≡ false → (is_among n ks ≡ false → without n (put_in n ks) ≡ ks) → without n (cond x (k ∷ put_in n ks) (cond y (k ∷ ks) (n ∷ k ∷ ks))) ≡ k ∷ ks
    go x true f h rest = absurd (true≢false h)
    go true false f h rest = ap (λ b. cond (not b) (k ∷ without n (put_in n ks)) (without n (put_in n ks))) f ∙ ap (λ ms. k ∷ ms) (rest h)
    go false false f h rest = ap (λ b. cond (not b) (n ∷ without n (k ∷ ks)) (without n (k ∷ ks))) (eqb-self n) ∙ without_none n (k ∷ ks) (ap (λ b. b || is_among n ks) f ∙ h)

pub ascending_filter : (f : ℕ → Bool) (ns : List ℕ) → Ascending ns → Ascending (filter f ns)
ascending_filter f [] a = tt
ascending_filter f (k ∷ ks) a = go (f k) (ascending_filter f ks a.1)
  where
    each : (m : ℕ) (ms : List ℕ) → Each (λ j. m < j) ms → Each (λ j. m < j) (filter f ms)
    each m [] all = tt
    each m (j ∷ ms) all = pick (f j) (each m ms all.1)
      where
        pick : (b : Bool) → Each (λ i. m < i) (filter f ms) → Each (λ i. m < i) (cond b (j ∷ filter f ms) (filter f ms))
        pick true rest = (all.0, rest)
        pick false rest = rest

    go : (b : Bool) → Ascending (filter f ks) → Ascending (cond b (k ∷ filter f ks) (filter f ks))
    go true rest = (each k ks a.0, rest)
    go false rest = rest

-- ---- at the place that was found

module _ {X : Type 0} (key : X → ℕ) where
  -- the key n stands there
  abbrev stands : ℕ → List X → ℕ → Bool
  stands n xs i = option_map_or (λ x. eqb (key x) n) (slice_get xs i) false

  pub stands_within : (n : ℕ) (xs : List X) (i : ℕ) → stands n xs i ≡ true → i < length xs
  stands_within n [] i e = cc
  stands_within n (x ∷ xs) zero e = omega arith
  stands_within n (x ∷ xs) (suc i) e = let l : i < length xs = stands_within n xs i e in omega (arith, l)

  pub stands_at : (n : ℕ) (xs : List X) (i : ℕ) (d : X) → stands n xs i ≡ true → eqb (key (get_or xs i d)) n ≡ true
  stands_at n [] i d e = cc
  stands_at n (x ∷ xs) zero d e = e
  stands_at n (x ∷ xs) (suc i) d e = stands_at n xs i d e

  pub stands_not : (n : ℕ) (xs : List X) (i : ℕ) (d : X) → stands n xs i ≡ false → i < length xs → eqb (key (get_or xs i d)) n ≡ false
  stands_not n [] i d e lt = absurd (omega arith)
  stands_not n (x ∷ xs) zero d e lt = e
  stands_not n (x ∷ xs) (suc i) d e lt = stands_not n xs i d e (omega (arith, lt))

pub put_is : (n : ℕ) (ns : List ℕ) (i : ℕ) → Each (λ m. nat_lt m n ≡ true) (take i ns) → Each (λ m. nat_lt m n ≡ false) (drop i ns) → (i < length ns → eqb (get_or ns i 0) n ≡ false) → insert ns i n ≡ put_in n ns
put_is n [] zero before after not_it = refl
put_is n [] (suc i) before after not_it = refl
put_is n (k ∷ ks) zero before after not_it =
    sym (ap (λ b. cond b (k ∷ put_in n ks) (cond (eqb k n) (k ∷ ks) (n ∷ k ∷ ks))) after.0 ∙ ap (λ b. cond b (k ∷ ks) (n ∷ k ∷ ks)) (not_it (omega arith)))
put_is n (k ∷ ks) (suc i) before after not_it =
    ap (λ ms. k ∷ ms) (put_is n ks i before.1 after (λ lt. not_it (omega (arith, lt))))
    ∙ sym (ap (λ b. cond b (k ∷ put_in n ks) (cond (eqb k n) (k ∷ ks) (n ∷ k ∷ ks))) before.0)

pub among_at : (n : ℕ) (ns : List ℕ) (i : ℕ) → i < length ns → eqb (get_or ns i 0) n ≡ true → is_among n ns ≡ true
among_at n [] i lt e = absurd (omega arith)
among_at n (k ∷ ks) zero lt e = or_left (eqb k n) (is_among n ks) e
among_at n (k ∷ ks) (suc i) lt e = or_right (eqb k n) (is_among n ks) (among_at n ks i (omega arith) e)

pub removed_number : (n : ℕ) (ns : List ℕ) (i : ℕ) → Ascending ns → i < length ns → eqb (get_or ns i 0) n ≡ true → remove ns i ≡ without n ns
removed_number n [] i a lt e = absurd (omega arith)
removed_number n (k ∷ ks) zero a lt e =
    sym (ap (λ b. cond (not b) (k ∷ without n ks) (without n ks)) e ∙ without_none n ks (none_above (λ m. m) n k ks (let s = eqb-true k n e in omega (arith, s)) a.0))
removed_number n (k ∷ ks) (suc i) a lt e =
    ap (λ ms. k ∷ ms) (removed_number n ks i a.1 (omega arith) e)
    ∙ sym (ap (λ b. cond (not b) (k ∷ without n ks) (without n ks)) (first_apart (let s = eqb-true (get_or ks i 0) n e in let u = each-at (λ m. m) (λ m. k < m) ks i 0 (omega arith) a.0 in omega (arith, s, u))))
  where
    first_apart : k < n → eqb k n ≡ false
    first_apart l = grind (arith, nat_tests)

-- what is found of a number of a list by the place of the first from it on
module _ (n : ℕ) (ns : List ℕ) (i : ℕ) (a : Ascending ns) (before : Each (λ m. nat_lt m n ≡ true) (take i ns)) (after : Each (λ m. nat_lt m n ≡ false) (drop i ns)) where
  pub is_there : option_map_or (λ m. eqb m n) (slice_get ns i) false ≡ true → is_among n ns ≡ true
  is_there e = among_at n ns i (stands_within (λ m. m) n ns i e) (stands_at (λ m. m) n ns i 0 e)

  pub not_there : option_map_or (λ m. eqb m n) (slice_get ns i) false ≡ false → is_among n ns ≡ false
  not_there e = none_there (λ m. m) n ns i 0 (ascending_pairs ns a) before after (stands_not (λ m. m) n ns i 0 e)

  pub put_there : option_map_or (λ m. eqb m n) (slice_get ns i) false ≡ true → put_in n ns ≡ ns
  put_there e = put_same n ns a (is_there e)

  pub put_new : option_map_or (λ m. eqb m n) (slice_get ns i) false ≡ false → insert ns i n ≡ put_in n ns
  put_new e = put_is n ns i before after (stands_not (λ m. m) n ns i 0 e)

  pub taken_there : option_map_or (λ m. eqb m n) (slice_get ns i) false ≡ true → remove ns i ≡ without n ns
  taken_there e = removed_number n ns i a (stands_within (λ m. m) n ns i e) (stands_at (λ m. m) n ns i 0 e)

  pub taken_none : option_map_or (λ m. eqb m n) (slice_get ns i) false ≡ false → without n ns ≡ ns
  taken_none e = without_none n ns (not_there e)

  pub is_place : option_map_or (λ m. eqb m n) (slice_get ns i) false ≡ true → IsPlace i n ns
  is_place e = (stands_within (λ m. m) n ns i e, taken_there e)

  pub is_gap : i ≤ length ns → option_map_or (λ m. eqb m n) (slice_get ns i) false ≡ false → IsGap i n ns
  is_gap le e = (le, put_new e, without_put n ns (not_there e))

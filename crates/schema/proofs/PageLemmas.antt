-- What has keys, in key order: where a bound stands among it.
use Rattle.std.proofs.Common.{suc, zero, ◌≡◌, refl, sym, ap, subst, ◌∙◌, ℕ, ◌-◌, ◌<◌, ◌≤◌, Bool, true, false, true≢false, not, ◌&&◌, List, [], ◌∷◌, take, drop, length, Some, None, get_or, arith, Bor}
use Rattle.std.proofs.lemmas.Option.{slice_get_within}
use Rattle.std.proofs.Math.Bool.{and-true}
use Rattle.std.specs.Prelude.{slice_get}
use Rattle.std.specs.List.{AllByRecursion}
use Rattle.std.specs.List.Sorted.{IsStrictlySortedBy, IsPartitionedBy, IsPartitionPoint}
use Rattle.std.specs.declared.cmp.Ordering.TheVariants.{Less, Equal}
use Rattle.std.proofs.lemmas.Bool.{not-true, not-false}
use Rattle.value.specs.Order.{value_cmp, value_cmp-total, value_cmp-exact}
use Rattle.value.specs.declared.key.Key.{Key}
use Rattle.value.specs.declared.value.Value.{Value}
use Rattle.value.proofs.Basics.{all-at, all-drop, all-take, all-weaker}
use Rattle.schema.specs.declared.reader.Bound.{Bound}
use Rattle.schema.specs.Pages.{has_items, IsInOrder, IsLeast, is_before}
use Rattle.schema.specs.Rows.{is_within}
use Rattle.schema.proofs.RowsInOrder.{later_within}

-- ---- where a test turns

abbrev pub Pairwise : {X : Type 0} → (X → X → Type 0) → List X → Type 0
Pairwise R [] = Unit {0}
Pairwise R (x ∷ xs) = AllByRecursion (R x) xs × Pairwise R xs

pub partitioned-pairwise : {X : Type 0} (p : X → Bool) (R : X → X → Type 0) → ((x y : X) → R x y → p y ≡ true → p x ≡ true) → (xs : List X) → Pairwise R xs → IsPartitionedBy p xs
partitioned-pairwise p R step [] pairs = λ i j d le lt yes. absurd (omega arith)
partitioned-pairwise {X} p R step (x ∷ xs) pairs = go (partitioned-pairwise p R step xs pairs.1)
  where
    go : IsPartitionedBy p xs → (i j : ℕ) (d : X) → i ≤ j → j < length (x ∷ xs) → p (get_or (x ∷ xs) j d) ≡ true → p (get_or (x ∷ xs) i d) ≡ true
    go rest zero zero d le lt passes = passes
    go rest zero (suc j) d le lt passes = step x (get_or xs j d) (all-at (R x) xs j d (omega arith) pairs.0) passes
    go rest (suc i) zero d le lt passes = absurd (omega arith)
    go rest (suc i) (suc j) d le lt passes = rest i j d (omega arith) (omega arith) passes

pub last_none : {X : Type 0} (xs : List X) → slice_get xs (length xs - 1) ≡ None → xs ≡ []
last_none [] at = refl
last_none (x ∷ xs) at = absurd (none (x ∷ xs) (length (x ∷ xs) - 1) (omega arith) at)
  where
    none : {Y : Type 0} (ys : List Y) (j : ℕ) → j < length ys → slice_get ys j ≡ None → ⊥
    none [] j lt e = absurd (omega arith)
    none (y ∷ ys) zero lt e = cc
    none (y ∷ ys) (suc j) lt e = none ys j (omega arith) e

module _ {A T : Type 0} (key : T → Value A) where
  -- ---- the order of keys

  pub least-trans : (k l : Value A) (items : List T) → value_cmp k l ≡ Less → IsLeast key l items → IsLeast key k items
  least-trans k l [] below least = tt
  least-trans k l (x ∷ xs) below least = (value_cmp-total.trans k l (key x) below least.0, least-trans k l xs below least.1)

  pub one-in_order : (x : T) (items : List T) → items ≡ x ∷ [] → IsInOrder key items
  unfolding IsStrictlySortedBy
  one-in_order x items e = subst (IsInOrder key) (sym e) (tt, tt)

  pub none-in_order : (items : List T) → items ≡ [] → IsInOrder key items
  unfolding IsStrictlySortedBy
  none-in_order items e = subst (IsInOrder key) (sym e) tt

  -- a key that is one of some in order is below those that follow it, and so is one below it
  pub least-from : (k : Value A) (x : T) (rest : List T) → IsInOrder key (x ∷ rest) → value_cmp k (key x) ≡ Equal → IsLeast key k rest
  unfolding IsStrictlySortedBy
  least-from k x rest sorted is = subst (λ l. IsLeast key l rest) (sym (value_cmp-exact k (key x) is)) sorted.0

  pub least-after : (k : Value A) (x : T) (rest : List T) → IsInOrder key (x ∷ rest) → value_cmp k (key x) ≡ Less → IsLeast key k (x ∷ rest)
  unfolding IsStrictlySortedBy
  least-after k x rest sorted below = (below, least-trans k (key x) rest below sorted.0)

  -- ---- where a bound turns

  -- an item before a bound
  abbrev pub is_early : Bound (Bor (Key A)) → T → Bool
  is_early bound x = not (is_within bound (key x))

  early-before : (bound : Bound (Bor (Key A))) (x y : T) → value_cmp (key x) (key y) ≡ Less → is_early bound y ≡ true → is_early bound x ≡ true
  early-before bound x y below early = go (is_within bound (key x)) refl
    where
      go : (b : Bool) → is_within bound (key x) ≡ b → not b ≡ true
      go false e = refl
      go true e = absurd (true≢false (sym (later_within bound (key x) (key y) below e) ∙ not-true (is_within bound (key y)) early))

  keyed_pairs : (k : Value A) (items : List T) → IsLeast key k items → AllByRecursion (λ x. value_cmp k (key x) ≡ Less) items
  keyed_pairs k [] least = tt
  keyed_pairs k (x ∷ xs) least = (least.0, keyed_pairs k xs least.1)

  pairwise-in_order : (items : List T) → IsInOrder key items → Pairwise (λ x y. value_cmp (key x) (key y) ≡ Less) items
  unfolding IsStrictlySortedBy
  pairwise-in_order [] sorted = tt
  pairwise-in_order (x ∷ xs) sorted = (keyed_pairs (key x) xs sorted.0, pairwise-in_order xs sorted.1)

  pub early-partitioned : (bound : Bound (Bor (Key A))) (items : List T) → IsInOrder key items → IsPartitionedBy (is_early bound) items
  early-partitioned bound items sorted = partitioned-pairwise (is_early bound) (λ x y. value_cmp (key x) (key y) ≡ Less) (early-before bound) items (pairwise-in_order items sorted)

  pub all-early : (bound : Bound (Bor (Key A))) (items : List T) (i : ℕ) → i ≤ length items → IsPartitionPoint (λ y. is_early bound y ≡ true) (λ y. is_early bound y ≡ false) items i → AllByRecursion (λ x. is_within bound (key x) ≡ false) (take i items)
  all-early bound items i le point = all-weaker (λ y. is_early bound y ≡ true) (λ x. is_within bound (key x) ≡ false) (λ y. not-true (is_within bound (key y))) (take i items) (all-take (λ y. is_early bound y ≡ true) i items le point.0)

  pub all-late : (bound : Bound (Bor (Key A))) (items : List T) (i : ℕ) → IsPartitionPoint (λ y. is_early bound y ≡ true) (λ y. is_early bound y ≡ false) items i → AllByRecursion (λ x. is_within bound (key x) ≡ true) (drop i items)
  all-late bound items i point = all-weaker (λ y. is_early bound y ≡ false) (λ x. is_within bound (key x) ≡ true) (λ y. not-false (is_within bound (key y))) (drop i items) (all-drop (λ y. is_early bound y ≡ false) i items point.1)

  -- ---- whether any item is within a bound is told by the last one

  least-at : (a : Value A) (items : List T) (i : ℕ) (x : T) → IsLeast key a items → slice_get items i ≡ Some x → value_cmp a (key x) ≡ Less
  least-at a [] i x least at = cc
  least-at a (y ∷ ys) zero x least at = let same : y ≡ x = cc in subst (λ z. value_cmp a (key z) ≡ Less) same least.0
  least-at a (y ∷ ys) (suc i) x least at = least-at a ys i x least.1 at

  last-tells : (bound : Bound (Bor (Key A))) (items : List T) (i : ℕ) (x : T) → IsInOrder key items → slice_get items i ≡ Some x → length items ≡ suc i → not (is_within bound (key x)) ≡ is_before key bound items
  unfolding IsStrictlySortedBy
  last-tells bound [] i x sorted at len = cc
  last-tells bound (y ∷ []) zero x sorted at len = let same : y ≡ x = cc in ap (λ z. not (is_within bound (key z))) (sym same) ∙ sym (and-true (not (is_within bound (key y))))
  last-tells bound (y ∷ z ∷ ys) zero x sorted at len = absurd (omega (arith, len))
  last-tells bound (y ∷ ys) (suc i) x sorted at len = go (is_within bound (key y)) refl (last-tells bound ys i x sorted.1 at (omega (arith, len)))
    where
      go : (b : Bool) → is_within bound (key y) ≡ b → not (is_within bound (key x)) ≡ is_before key bound ys → not (is_within bound (key x)) ≡ (not b && is_before key bound ys)
      go false e rest = rest
      go true e rest = ap not (later_within bound (key y) (key x) (least-at (key y) ys i x sorted.0 at) e)

  pub before-last : (bound : Bound (Bor (Key A))) (items : List T) (x : T) → IsInOrder key items → slice_get items (length items - 1) ≡ Some x → not (is_within bound (key x)) ≡ is_before key bound items
  before-last bound items x sorted at = let lt = slice_get_within items (length items - 1) x at in last-tells bound items (length items - 1) x sorted at (omega (arith, lt))

  pub before-none : (bound : Bound (Bor (Key A))) (items : List T) → slice_get items (length items - 1) ≡ None → true ≡ is_before key bound items
  before-none bound items at = ap (is_before key bound) (sym (last_none items at))

  -- ---- parts in order

  pub in_order-drop : (i : ℕ) (items : List T) → IsInOrder key items → IsInOrder key (drop i items)
  unfolding IsStrictlySortedBy
  in_order-drop zero items sorted = sorted
  in_order-drop (suc i) [] sorted = sorted
  in_order-drop (suc i) (x ∷ xs) sorted = in_order-drop i xs sorted.1

  least-take : (k : Value A) (i : ℕ) (items : List T) → IsLeast key k items → IsLeast key k (take i items)
  least-take k zero items least = tt
  least-take k (suc i) [] least = tt
  least-take k (suc i) (x ∷ xs) least = (least.0, least-take k i xs least.1)

  pub in_order-take : (i : ℕ) (items : List T) → IsInOrder key items → IsInOrder key (take i items)
  unfolding IsStrictlySortedBy
  in_order-take zero items sorted = tt
  in_order-take (suc i) [] sorted = sorted
  in_order-take (suc i) (x ∷ xs) sorted = (least-take (key x) i xs sorted.0, in_order-take i xs sorted.1)

-- ---- a cut with items on both sides

pub cut-items : {T : Type 0} (items : List T) (i : ℕ) → 0 < i → i < length items → (has_items (take i items) ≡ true) × (has_items (drop i items) ≡ true)
cut-items items zero positive lt = absurd (omega arith)
cut-items [] (suc i) positive lt = absurd (omega arith)
cut-items {T} (x ∷ xs) (suc i) positive lt = (refl, rest i xs (omega arith))
  where
    rest : (j : ℕ) (ys : List T) → j < length ys → has_items (drop j ys) ≡ true
    rest zero [] small = absurd (omega arith)
    rest zero (y ∷ ys) small = refl
    rest (suc j) [] small = absurd (omega arith)
    rest (suc j) (y ∷ ys) small = rest j ys (omega arith)

-- Changes that are by table, then by key as they were written: they are merged already, and a key is found among them by a binary search.
use Rattle.std.proofs.Common.{◌≡◌, refl, sym, ap, subst, ◌∙◌, ℕ, zero, suc, ◌+◌, ◌-◌, ◌<◌, ◌≤◌, Bool, true, false, true≢false, ◌⊎◌, inl, inr, ◌&&◌, ◌||◌, List, [], ◌∷◌, length, drop, get_or, eqb, Result, Ok, Err, is_ok, arith}
use Rattle.std.proofs.lemmas.Cmp.{tied_itself}
use Rattle.std.proofs.lemmas.Bool.{eqb-true, and_parts}
use Rattle.std.proofs.lemmas.List.Sorted.{searchable_from_sorted}
use Rattle.std.specs.List.Sorted.{IsBinarySearchResult, IsSearchInRange, IsStrictlySortedBy}
use Rattle.std.specs.Ordering.{is_eq, is_lt, ordering_reverse}
use Rattle.std.specs.declared.cmp.Ordering.{Ordering}
use Rattle.std.specs.declared.cmp.Ordering.TheVariants.{Less, Equal, Greater}
use Rattle.value.specs.Order.{value_cmp-total}
use Rattle.value.proofs.Basics.{eqb-self, Less-from_lt}
use Rattle.schema.specs.declared.changes.Change.{Change}
use Rattle.schema.specs.Changing.{change_cmp}
use Rattle.schema.specs.Plain.{same}
use Rattle.schema.proofs.PlainLemmas.{same_value}
use Rattle.transactions.specs.Merged.{AreMerged, is_changed}
use Rattle.transactions.proofs.MergedLemmas.{above_too, change_cmp-total, is_at, same_order, same_place}

less_not_equal : Less ≡ Equal → ⊥
less_not_equal e = cc

greater_not_equal : Greater ≡ Equal → ⊥
greater_not_equal e = cc

module _ {A : Type 0} where
  -- ---- they are merged as they are

  pub merged_already : (xs : List (Change A)) → IsStrictlySortedBy change_cmp xs → AreMerged xs xs
  merged_already xs sorted = record { by_key = sorted; keys = λ t k. refl; same = λ X order. refl }

  above_all : (x y : Change A) (ys : List (Change A)) → change_cmp x y ≡ Less → IsStrictlySortedBy change_cmp (y ∷ ys) → IsStrictlySortedBy change_cmp (x ∷ y ∷ ys)
  unfolding IsStrictlySortedBy
  above_all x y ys less sorted = ((less, above_too x y ys less sorted.0), sorted)

  -- the last so many rise, and so do one more
  pub rising_more : (xs : List (Change A)) (n : ℕ) (x y : Change A) → suc n < length xs → x ≡ get_or xs n x → y ≡ get_or xs (suc n) y → is_lt (change_cmp x y) ≡ true → IsStrictlySortedBy change_cmp (drop (suc n) xs) → IsStrictlySortedBy change_cmp (drop n xs)
  rising_more [] n x y lt at next less sorted = absurd (omega (arith, lt))
  rising_more (z ∷ []) n x y lt at next less sorted = absurd (omega (arith, lt))
  rising_more (z ∷ w ∷ zs) zero x y lt at next less sorted = above_all z w zs (ap (λ c. change_cmp c w) (sym at) ∙ ap (change_cmp x) (sym next) ∙ Less-from_lt (change_cmp x y) less) sorted
  rising_more (z ∷ w ∷ zs) (suc n) x y lt at next less sorted = rising_more (w ∷ zs) n x y (omega (arith, lt)) at next less sorted

  -- one alone rises, and so do none
  pub rising_last : (xs : List (Change A)) → IsStrictlySortedBy change_cmp (drop (length xs - 1) xs)
  unfolding IsStrictlySortedBy
  rising_last [] = tt
  rising_last (x ∷ []) = (tt, tt)
  rising_last (x ∷ y ∷ xs) = subst (λ n. IsStrictlySortedBy change_cmp (drop n (x ∷ y ∷ xs))) step (rising_last (y ∷ xs))
    where
      step : suc (length (y ∷ xs) - 1) ≡ length (x ∷ y ∷ xs) - 1
      step = omega arith

  -- ---- a binary search among them

  -- a change is of a key where it stands level with one of that key
  at_is : (x y : Change A) → is_at x.table x.key y ≡ is_eq (change_cmp y x)
  at_is x y = by_cases (is_at x.table x.key y) refl (change_cmp y x) refl
    where
      level : is_at x.table x.key y ≡ true → change_cmp y x ≡ Equal
      level e =
          let p = and_parts (eqb x.table y.table) (same x.key y.key) e in
          same_order y x x (sym (eqb-true x.table y.table p.0)) (sym (same_value x.key y.key p.1)) ∙ tied_itself change_cmp-total x

      placed : change_cmp y x ≡ Equal → is_at x.table x.key y ≡ true
      placed e =
          let p = same_place y x e in
          ap (λ n. eqb x.table n && same x.key y.key) p.0
          ∙ ap (λ k. eqb x.table x.table && same x.key k) p.1
          ∙ ap (λ b. b && same x.key x.key) (eqb-self x.table)
          ∙ ap is_eq (tied_itself value_cmp-total x.key)

      by_cases : (b : Bool) → is_at x.table x.key y ≡ b → (o : Ordering) → change_cmp y x ≡ o → b ≡ is_eq o
      by_cases true e Equal f = refl
      by_cases false e Less f = refl
      by_cases false e Greater f = refl
      by_cases true e Less f = absurd (less_not_equal (sym f ∙ level e))
      by_cases true e Greater f = absurd (greater_not_equal (sym f ∙ level e))
      by_cases false e Equal f = absurd (true≢false (sym (placed f) ∙ e))

  below_first : (x y : Change A) → change_cmp x y ≡ Less → is_lt (change_cmp y x) ≡ false
  below_first x y less = ap is_lt (change_cmp-total.antisymm y x ∙ ap ordering_reverse less)

  neighbours : (xs : List (Change A)) → IsStrictlySortedBy change_cmp xs → (k : ℕ) (d : Change A) → suc k < length xs → is_lt (change_cmp (get_or xs (suc k) d) (get_or xs k d)) ≡ false
  unfolding IsStrictlySortedBy
  neighbours [] sorted k d lt = absurd (omega (arith, lt))
  neighbours (x ∷ []) sorted k d lt = absurd (omega (arith, lt))
  neighbours (x ∷ y ∷ xs) sorted zero d lt = below_first x y sorted.0.0
  neighbours (x ∷ y ∷ xs) sorted (suc k) d lt = neighbours (y ∷ xs) sorted.1 k d (omega (arith, lt))

  neighbours_more : (xs : List (Change A)) → IsStrictlySortedBy change_cmp xs → (k n : ℕ) (d : Change A) → suc k ≡ n → n < length xs → is_lt (change_cmp (get_or xs n d) (get_or xs k d)) ≡ false
  neighbours_more xs sorted k n d next lt = subst (λ m. is_lt (change_cmp (get_or xs m d) (get_or xs k d)) ≡ false) next (neighbours xs sorted k d (omega (arith, next, lt)))

  any_at : (x : Change A) (xs : List (Change A)) (i : ℕ) → i < length xs → ((d : Change A) → change_cmp (get_or xs i d) x ≡ Equal) → is_changed x.table x.key xs ≡ true
  any_at x [] i lt f = absurd (omega (arith, lt))
  any_at x (y ∷ xs) zero lt f = ap (λ b. b || is_changed x.table x.key xs) (at_is x y ∙ ap is_eq (f y))
  any_at x (y ∷ xs) (suc i) lt f = go (is_at x.table x.key y) (any_at x xs i (omega (arith, lt)) f)
    where
      go : (b : Bool) → is_changed x.table x.key xs ≡ true → (b || is_changed x.table x.key xs) ≡ true
      go true e = refl
      go false e = e

  none_at : (x : Change A) (xs : List (Change A)) → ((k : ℕ) (d : Change A) → k < length xs → is_eq (change_cmp (get_or xs k d) x) ≡ false) → is_changed x.table x.key xs ≡ false
  none_at x [] f = refl
  none_at x (y ∷ xs) f = ap (λ b. b || is_changed x.table x.key xs) (at_is x y ∙ f 0 y (omega arith)) ∙ none_at x xs (λ k d lt. f (suc k) d (omega (arith, lt)))

  pub searched : (x : Change A) (xs : List (Change A)) (r : Result ℕ ℕ) → IsStrictlySortedBy change_cmp xs → IsSearchInRange r (length xs) → IsBinarySearchResult (λ y. change_cmp y x) xs r → is_ok r ≡ is_changed x.table x.key xs
  searched x xs (Ok i) sorted bound found = sym (any_at x xs i bound found)
  searched x xs (Err i) sorted bound parted =
      let p = parted (searchable_from_sorted change_cmp-total (λ (y : Change A). y) xs x (λ k d l h. neighbours_more xs sorted k (k + 1) d (omega arith) h)) in
      sym (none_at x xs (λ k d lt. go k d lt (two k i) p.0 p.1))
    where
      two : (k i : ℕ) → (k < i) ⊎ (i ≤ k)
      two k i = grind arith

      go : (k : ℕ) (d : Change A) → k < length xs → (k < i) ⊎ (i ≤ k)
          → ((k : ℕ) (d : Change A) → 0 ≤ k → k < i → change_cmp (get_or xs k d) x ≡ Less)
          → ((k : ℕ) (d : Change A) → i ≤ k → k < length xs → change_cmp (get_or xs k d) x ≡ Greater) → is_eq (change_cmp (get_or xs k d) x) ≡ false
      go k d lt (inl h) before after = ap is_eq (before k d (omega arith) h)
      go k d lt (inr h) before after = ap is_eq (after k d h lt)

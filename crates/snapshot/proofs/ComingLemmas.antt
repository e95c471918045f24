-- A walk over own changes: the first of it is the next change, and what is left is behind it.
use Rattle.std.proofs.Common.{◌≡◌, ℕ, ◌==◌, ◌&&◌, Bool, true, false, cond, List, [], ◌∷◌, map, drop, Option, Some, None, Bor, refl, sym, ap, subst, ◌∙◌}
use Rattle.std.proofs.lemmas.Cmp.{tied_itself}
use Rattle.std.specs.List.{AllByRecursion, filter, find, slice_get}
use Rattle.std.specs.List.Sorted.{IsStrictlySortedBy}
use Rattle.std.specs.Option.{option_map}
use Rattle.std.specs.Ordering.{is_lt, ordering_reverse}
use Rattle.std.specs.declared.cmp.Ordering.TheVariants.{Less}
use Rattle.value.specs.Order.{value_cmp, value_cmp-total}
use Rattle.value.specs.declared.key.Key.{Key}
use Rattle.value.specs.declared.value.Value.{Value}
use Rattle.schema.specs.declared.changes.Change.{Change}
use Rattle.schema.specs.declared.reader.Bound.{Bound}
use Rattle.schema.specs.declared.reader.Bound.TheVariants.{After}
use Rattle.schema.specs.declared.row.Row.{Row}
use Rattle.schema.specs.Changing.{new_row, next_change, changes_at, IsByKey}
use Rattle.schema.specs.Coming.{said_of, coming}
use Rattle.schema.specs.Rows.{is_within}
use Rattle.schema.proofs.RowsInOrder.{later_within}
use Rattle.snapshot.specs.Merging.{unless_before}
use Rattle.snapshot.proofs.MergeLemmas.{own_is_first}

module _ {A : Type 0} where
  abbrev at : Key A → Bor (Key A)
  at key = record { ref_ptr = (0, 0); now = key }

  -- what a walk has left behind a change
  abbrev pub coming_behind : List (Change A) → ℕ → Option (Value A × Option (Row A)) → List (Value A × Option (Row A))
  coming_behind xs t None = []
  coming_behind xs t (Some p) = coming xs t (After (at p.0))

  -- the first is the next change
  first_coming : (xs : List (Change A)) (t : ℕ) (bound : Bound (Bor (Key A))) → slice_get (coming xs t bound) 0 ≡ next_change xs t bound
  first_coming [] t bound = refl
  first_coming (x ∷ xs) t bound = by_test (x.table == t && is_within bound x.key) (first_coming xs t bound)
    where
      by_test : (b : Bool) → slice_get (coming xs t bound) 0 ≡ next_change xs t bound
          → slice_get (map said_of (cond b (x ∷ filter (λ y. y.table == t && is_within bound y.key) xs) (filter (λ y. y.table == t && is_within bound y.key) xs))) 0 ≡ option_map {T = Change A} {U = Value A × Option (Row A)} (λ y. (y.key, new_row y)) (cond b (Some x) (find (λ y. y.table == t && is_within bound y.key) xs))
      by_test true rest = refl
      by_test false rest = rest

  -- behind a key that all others are above, the same are within each bound that lets it in
  same_above : (xs : List (Change A)) (t : ℕ) (bound : Bound (Bor (Key A))) (k : Value A) → is_within bound k ≡ true → AllByRecursion (λ l. value_cmp k l ≡ Less) (map (λ x. x.key) (changes_at xs t)) → coming xs t bound ≡ coming xs t (After (at k))
  same_above [] t bound k inside above = refl
  same_above (x ∷ xs) t bound k inside above = by_table (x.table == t) above (λ h. same_above xs t bound k inside h)
    where
      with_first : Bool → List (Value A × Option (Row A)) → List (Value A × Option (Row A))
      with_first b rest = cond b (said_of x ∷ rest) rest

      taken : (bd : Bound (Bor (Key A))) (b : Bool) → map said_of (cond b (x ∷ filter (λ y. y.table == t && is_within bd y.key) xs) (filter (λ y. y.table == t && is_within bd y.key) xs)) ≡ with_first b (coming xs t bd)
      taken bd true = refl
      taken bd false = refl

      by_table : (a : Bool) → AllByRecursion (λ l. value_cmp k l ≡ Less) (map (λ y. y.key) (cond a (x ∷ changes_at xs t) (changes_at xs t)))
          → (AllByRecursion (λ l. value_cmp k l ≡ Less) (map (λ y. y.key) (changes_at xs t)) → coming xs t bound ≡ coming xs t (After (at k)))
          → map said_of (cond (a && is_within bound x.key) (x ∷ filter (λ y. y.table == t && is_within bound y.key) xs) (filter (λ y. y.table == t && is_within bound y.key) xs))
          ≡ map said_of (cond (a && is_within (After (at k)) x.key) (x ∷ filter (λ y. y.table == t && is_within (After (at k)) y.key) xs) (filter (λ y. y.table == t && is_within (After (at k)) y.key) xs))
      by_table true all rest =
          let inner : is_within bound x.key ≡ true = later_within bound k x.key all.0 inside in
          let outer : is_within (After (at k)) x.key ≡ true = ap is_lt all.0 in
          taken bound (is_within bound x.key) ∙ ap (λ b. with_first b (coming xs t bound)) (inner ∙ sym outer) ∙ ap (with_first (is_within (After (at k)) x.key)) (rest all.1) ∙ sym (taken (After (at k)) (is_within (After (at k)) x.key))
      by_table false all rest = rest all

  -- the key of a change that is found is above one that all are above
  above_found : (xs : List (Change A)) (t : ℕ) (bound : Bound (Bor (Key A))) (k : Value A) (x : Change A) → AllByRecursion (λ l. value_cmp k l ≡ Less) (map (λ y. y.key) (changes_at xs t)) → find (λ y. y.table == t && is_within bound y.key) xs ≡ Some x → value_cmp k x.key ≡ Less
  above_found [] t bound k x above found = cc
  above_found (y ∷ ys) t bound k x above found = by_tests (y.table == t) (is_within bound y.key) above found (λ h f. above_found ys t bound k x h f)
    where
      by_tests : (a b : Bool) → AllByRecursion (λ l. value_cmp k l ≡ Less) (map (λ z. z.key) (cond a (y ∷ changes_at ys t) (changes_at ys t))) → cond (a && b) (Some y) (find (λ z. z.table == t && is_within bound z.key) ys) ≡ Some x
          → (AllByRecursion (λ l. value_cmp k l ≡ Less) (map (λ z. z.key) (changes_at ys t)) → find (λ z. z.table == t && is_within bound z.key) ys ≡ Some x → value_cmp k x.key ≡ Less) → value_cmp k x.key ≡ Less
      by_tests true true all is rest = let same : y ≡ x = cc in subst (λ (z : Change A). value_cmp k z.key ≡ Less) same all.0
      by_tests true false all is rest = rest all.1 is
      by_tests false b all is rest = rest all is

  -- those behind the first are the rest
  rest_found : (xs : List (Change A)) (t : ℕ) (bound : Bound (Bor (Key A))) (x : Change A) → IsByKey xs t → find (λ y. y.table == t && is_within bound y.key) xs ≡ Some x → drop 1 (coming xs t bound) ≡ coming xs t (After (at x.key))
  unfolding IsStrictlySortedBy
  rest_found [] t bound x by_key found = cc
  rest_found (y ∷ ys) t bound x by_key found = by_tests (y.table == t) refl (is_within bound y.key) refl by_key found (λ s h. rest_found ys t bound x s h)
    where
      others : Bound (Bor (Key A)) → List (Change A)
      others bd = filter (λ z. z.table == t && is_within bd z.key) ys

      passed : (bd : Bound (Bor (Key A))) → (y.table == t && is_within bd y.key) ≡ false → coming (y ∷ ys) t bd ≡ coming ys t bd
      passed bd e = ap (λ b. map said_of (cond b (y ∷ others bd) (others bd))) e

      taken : (bd : Bound (Bor (Key A))) → (y.table == t && is_within bd y.key) ≡ true → coming (y ∷ ys) t bd ≡ said_of y ∷ coming ys t bd
      taken bd e = ap (λ b. map said_of (cond b (y ∷ others bd) (others bd))) e

      by_tests : (a : Bool) → (y.table == t) ≡ a → (b : Bool) → is_within bound y.key ≡ b → IsStrictlySortedBy value_cmp (map (λ z. z.key) (cond a (y ∷ changes_at ys t) (changes_at ys t)))
          → cond (a && b) (Some y) (find (λ z. z.table == t && is_within bound z.key) ys) ≡ Some x
          → (IsByKey ys t → find (λ z. z.table == t && is_within bound z.key) ys ≡ Some x → drop 1 (coming ys t bound) ≡ coming ys t (After (at x.key))) → drop 1 (coming (y ∷ ys) t bound) ≡ coming (y ∷ ys) t (After (at x.key))
      by_tests true table true inside sorted is rest =
          let same : y ≡ x = cc in
          let itself : (y.table == t && is_within (After (at y.key)) y.key) ≡ false = rw (table, tied_itself value_cmp-total y.key) refl in
          ap (drop 1) (taken bound (rw (table, inside) refl)) ∙ same_above ys t bound y.key inside sorted.0 ∙ sym (passed (After (at y.key)) itself) ∙ ap (λ (z : Change A). coming (y ∷ ys) t (After (at z.key))) same
      by_tests true table false outside sorted is rest =
          let below : value_cmp x.key y.key ≡ ordering_reverse Less = value_cmp-total.antisymm x.key y.key ∙ ap ordering_reverse (above_found ys t bound y.key x sorted.0 is) in
          ap (drop 1) (passed bound (rw (table, outside) refl)) ∙ rest sorted.1 is ∙ sym (passed (After (at x.key)) (rw (table, below) refl))
      by_tests false table b inside sorted is rest =
          ap (drop 1) (passed bound (rw table refl)) ∙ rest sorted is ∙ sym (passed (After (at x.key)) (rw table refl))

  none_left : (xs : List (Change A)) (t : ℕ) (bound : Bound (Bor (Key A))) → slice_get (coming xs t bound) 0 ≡ None → drop 1 (coming xs t bound) ≡ []
  none_left xs t bound none = go (coming xs t bound) none
    where
      go : (rest : List (Value A × Option (Row A))) → slice_get rest 0 ≡ None → drop 1 rest ≡ []
      go [] e = refl
      go (p ∷ rest) e = cc

  rest_coming : (xs : List (Change A)) (t : ℕ) (bound : Bound (Bor (Key A))) → IsByKey xs t → drop 1 (coming xs t bound) ≡ coming_behind xs t (next_change xs t bound)
  rest_coming xs t bound by_key = go (find (λ y. y.table == t && is_within bound y.key) xs) refl
    where
      shown : Option (Change A) → Option (Value A × Option (Row A))
      shown o = option_map (λ x. (x.key, new_row x)) o

      go : (o : Option (Change A)) → find (λ y. y.table == t && is_within bound y.key) xs ≡ o → drop 1 (coming xs t bound) ≡ coming_behind xs t (shown o)
      go None found = none_left xs t bound (first_coming xs t bound ∙ ap shown found)
      go (Some x) found = rest_found xs t bound x by_key found

  module _ (xs : List (Change A)) (t : ℕ) (by_key : IsByKey xs t) where
    -- of a walk within a bound
    pub came_first : (bound : Bound (Bor (Key A))) (walk left : List (Value A × Option (Row A))) (change : Option (Value A × Option (Row A))) → walk ≡ coming xs t bound → change ≡ slice_get walk 0 → left ≡ drop 1 walk → (change ≡ next_change xs t bound) × (left ≡ coming_behind xs t change)
    came_first bound walk left change is first rest =
        let next : change ≡ next_change xs t bound = first ∙ ap (λ zs. slice_get zs 0) is ∙ first_coming xs t bound in
        (next, rest ∙ ap (drop 1) is ∙ rest_coming xs t bound by_key ∙ ap (coming_behind xs t) (sym next))

    -- of a walk behind a change that comes first
    pub came_next : (lent : Option (Row A)) (change : Option (Value A × Option (Row A))) (key : Bor (Key A)) (own : Option (Row A)) (walk left : List (Value A × Option (Row A))) (next : Option (Value A × Option (Row A)))
        → unless_before lent change ≡ Some (key.now, own) → walk ≡ coming_behind xs t change → next ≡ slice_get walk 0 → left ≡ drop 1 walk → (next ≡ next_change xs t (After key)) × (left ≡ coming_behind xs t next)
    came_next lent change key own walk left next is behind first rest = came_first (After key) walk left next (behind ∙ ap (coming_behind xs t) (own_is_first lent change (key.now, own) is).0) first rest

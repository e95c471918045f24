-- The first row within a bound, by what the rows have at each key.
use Rattle.std.proofs.Common.{◌≡◌, Bool, true, false, true≢false, cond, List, [], ◌∷◌, map, Option, Some, None, Bor, refl, sym, ap, subst, ◌∙◌}
use Rattle.std.proofs.lemmas.Cmp.{tied_itself}
use Rattle.std.specs.FinMap.{find}
use Rattle.std.specs.List.{AllByRecursion}
use Rattle.std.specs.List.Sorted.{IsStrictlySortedBy}
use Rattle.std.specs.Ordering.{is_eq, ordering_reverse}
use Rattle.std.specs.declared.cmp.Ordering.{Ordering}
use Rattle.std.specs.declared.cmp.Ordering.TheVariants.{Less, Equal, Greater}
use Rattle.value.specs.Order.{value_cmp, value_cmp-exact, value_cmp-total}
use Rattle.value.specs.declared.key.Key.{Key}
use Rattle.value.specs.declared.value.Value.{Value}
use Rattle.value.proofs.Basics.{Less-from_lt}
use Rattle.schema.specs.declared.reader.Bound.{Bound}
use Rattle.schema.specs.declared.reader.Bound.TheVariants.{After}
use Rattle.schema.specs.declared.row.Row.{Row}
use Rattle.schema.specs.Plain.{same}
use Rattle.schema.specs.Rows.{Rows, IsInKeyOrder, is_within, next_row}
use Rattle.schema.proofs.PlainLemmas.{same_value}
use Rattle.schema.proofs.RowsInOrder.{later_within}

module _ {A : Type 0} where
  -- a key within a bound is none that isn't
  pub apart : (bound : Bound (Bor (Key A))) (k l : Key A) → is_within bound k ≡ true → is_within bound l ≡ false → same k l ≡ false
  apart bound k l inside outside = go (same k l) refl
    where
      go : (b : Bool) → same k l ≡ b → b ≡ false
      go true e = absurd (true≢false (sym inside ∙ ap (is_within bound) (same_value k l e) ∙ outside))
      go false e = refl

  -- no row of a key below all others is there
  none_below : (q k : Key A) (rows : Rows A) → value_cmp q k ≡ Less → AllByRecursion (λ l. value_cmp k l ≡ Less) (map (λ row. row.0) rows) → find value_cmp q rows ≡ None
  none_below q k [] below above = refl
  none_below q k (row ∷ rows) below above = rw (value_cmp-total.trans q k row.0 below above.0) (none_below q k rows below above.1)

  -- it is there, within the bound, and none within it comes before it
  abbrev pub IsFirst : Rows A → Bound (Bor (Key A)) → Row A → Type 0
  IsFirst rows bound r = (find value_cmp r.0 rows ≡ Some r.1) × (is_within bound r.0 ≡ true) × ((q : Value A) → is_within bound q ≡ true → value_cmp q r.0 ≡ Less → find value_cmp q rows ≡ None)

  -- none is there within the bound
  abbrev pub HasNone : Rows A → Bound (Bor (Key A)) → Type 0
  HasNone rows bound = (q : Value A) → is_within bound q ≡ true → find value_cmp q rows ≡ None

  pub first_of : (rows : Rows A) (bound : Bound (Bor (Key A))) (r : Row A) → IsInKeyOrder rows → next_row rows bound ≡ Some r → IsFirst rows bound r
  unfolding IsStrictlySortedBy
  first_of [] bound r sorted found = cc
  first_of (first ∷ rows) bound r sorted found = by_test (is_within bound first.0) refl found (λ h. first_of rows bound r sorted.1 h)
    where
      by_test : (b : Bool) → is_within bound first.0 ≡ b → cond b (Some first) (next_row rows bound) ≡ Some r → (next_row rows bound ≡ Some r → IsFirst rows bound r) → IsFirst (first ∷ rows) bound r
      by_test true inside is rest =
          let e : first ≡ r = cc in
          subst (λ x. IsFirst (first ∷ rows) bound x) e (
            ap (λ o. cond (is_eq o) (Some first.1) (find value_cmp first.0 rows)) (tied_itself value_cmp-total first.0),
            inside,
            λ q within below. rw below (none_below q first.0 rows below sorted.0),
          )
      by_test false outside is rest =
          let f = rest is in (
            ap (λ b. cond b (Some first.1) (find value_cmp r.0 rows)) (apart bound r.0 first.0 f.1 outside) ∙ f.0,
            f.1,
            λ q within below. ap (λ b. cond b (Some first.1) (find value_cmp q rows)) (apart bound q first.0 within outside) ∙ f.2 q within below,
          )

  pub none_of : (rows : Rows A) (bound : Bound (Bor (Key A))) → next_row rows bound ≡ None → HasNone rows bound
  none_of [] bound none = λ q within. refl
  none_of (first ∷ rows) bound none = by_test (is_within bound first.0) refl none (λ h. none_of rows bound h)
    where
      by_test : (b : Bool) → is_within bound first.0 ≡ b → cond b (Some first) (next_row rows bound) ≡ None → (next_row rows bound ≡ None → HasNone rows bound) → HasNone (first ∷ rows) bound
      by_test true inside is rest = cc
      by_test false outside is rest = λ q within. ap (λ b. cond b (Some first.1) (find value_cmp q rows)) (apart bound q first.0 within outside) ∙ rest is q within

  above : (k l : Key A) → value_cmp k l ≡ Greater → value_cmp l k ≡ Less
  above k l cmp = value_cmp-total.antisymm l k ∙ ap ordering_reverse cmp

  some_not_none : (o : Option (List (Value A))) (fields : List (Value A)) → o ≡ Some fields → o ≡ None → ⊥
  some_not_none o fields is none = cc

  -- such a row is the first that is read
  pub is_first : (rows : Rows A) (bound : Bound (Bor (Key A))) (r : Row A) → IsInKeyOrder rows → IsFirst rows bound r → next_row rows bound ≡ Some r
  is_first rows bound r sorted first = go (next_row rows bound) refl
    where
      one_row : (s : Row A) → IsFirst rows bound s → (o : Ordering) → value_cmp s.0 r.0 ≡ o → Some s ≡ Some r
      one_row s f Less cmp = absurd (some_not_none _ s.1 f.0 (first.2 s.0 f.1 cmp))
      one_row s f Equal cmp =
          let key = value_cmp-exact s.0 r.0 cmp in
          let both : Some s.1 ≡ Some r.1 = sym f.0 ∙ ap (λ k. find value_cmp k rows) key ∙ first.0 in
          let fields : s.1 ≡ r.1 = cc in
          (λ i. Some (key i, fields i))
      one_row s f Greater cmp = absurd (some_not_none _ r.1 first.0 (f.2 r.0 first.1 (above s.0 r.0 cmp)))

      go : (o : Option (Row A)) → next_row rows bound ≡ o → o ≡ Some r
      go None is = absurd (some_not_none _ r.1 first.0 (none_of rows bound is r.0 first.1))
      go (Some s) is = one_row s (first_of rows bound s sorted is) (value_cmp s.0 r.0) refl

  -- and where there is none, none is read
  pub is_none : (rows : Rows A) (bound : Bound (Bor (Key A))) → IsInKeyOrder rows → HasNone rows bound → next_row rows bound ≡ None
  is_none rows bound sorted none = go (next_row rows bound) refl
    where
      go : (o : Option (Row A)) → next_row rows bound ≡ o → o ≡ None
      go None is = refl
      go (Some s) is = let f = first_of rows bound s sorted is in absurd (some_not_none _ s.1 f.0 (none s.0 f.1))

  -- where no row stands up to a key within a bound, the first is the first after it
  pub next_past : (rows : Rows A) (bound : Bound (Bor (Key A))) (key : Bor (Key A)) → IsInKeyOrder rows → is_within bound key.now ≡ true
      → ((q : Value A) → is_within bound q ≡ true → is_within (After key) q ≡ false → find value_cmp q rows ≡ None) → next_row rows bound ≡ next_row rows (After key)
  next_past rows bound key sorted inside gap = go (next_row rows (After key)) refl
    where
      beyond : (q : Value A) → is_within bound q ≡ true → (is_within (After key) q ≡ true → find value_cmp q rows ≡ None) → (b : Bool) → is_within (After key) q ≡ b → find value_cmp q rows ≡ None
      beyond q within past true e = past e
      beyond q within past false e = gap q within e

      go : (o : Option (Row A)) → next_row rows (After key) ≡ o → next_row rows bound ≡ o
      go None is = is_none rows bound sorted (λ q within. beyond q within (λ e. none_of rows (After key) is q e) (is_within (After key) q) refl)
      go (Some s) is =
          let f = first_of rows (After key) s sorted is in
          is_first rows bound s sorted (f.0, later_within bound key.now s.0 (Less-from_lt (value_cmp key.now s.0) f.1) inside, λ q within below. beyond q within (λ e. f.2 q e below) (is_within (After key) q) refl)

  -- rows with the same at each key within a bound have the same first
  pub same_next : (rows others : Rows A) (bound : Bound (Bor (Key A))) → IsInKeyOrder rows → IsInKeyOrder others → ((q : Value A) → is_within bound q ≡ true → find value_cmp q rows ≡ find value_cmp q others) → next_row rows bound ≡ next_row others bound
  same_next rows others bound sorted others_sorted alike = go (next_row others bound) refl
    where
      go : (o : Option (Row A)) → next_row others bound ≡ o → next_row rows bound ≡ o
      go None is = is_none rows bound sorted (λ q within. alike q within ∙ none_of others bound is q within)
      go (Some s) is = let f = first_of others bound s others_sorted is in is_first rows bound s sorted (alike s.0 f.1 ∙ f.0, f.1, λ q within below. alike q within ∙ f.2 q within below)

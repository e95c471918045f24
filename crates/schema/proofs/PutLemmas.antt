-- Rows in key order: what is put in or taken away, and the next row.
use Rattle.std.proofs.Common.{suc, zero, ◌≡◌, refl, sym, ap, subst, ◌∙◌, ℕ, Bool, true, false, not, cond, [], ◌∷◌, ◌++◌, take, drop, Option, Some, None, set, Bor}
use Rattle.std.proofs.lemmas.Option.{slice_get_within}
use Rattle.std.specs.Prelude.{slice_get}
use Rattle.std.specs.List.{AllByRecursion}
use Rattle.std.specs.List.Sorted.{IsStrictlySortedBy}
use Rattle.std.specs.Option.{option_map_or}
use Rattle.std.specs.Ordering.{is_le, match_ordering, ordering_reverse}
use Rattle.std.specs.declared.cmp.Ordering.{Ordering}
use Rattle.std.specs.declared.cmp.Ordering.TheVariants.{Less, Equal, Greater}
use Rattle.std.proofs.lemmas.List.{set_split, take-append-drop}
use Rattle.value.specs.Order.{value_cmp, value_cmp-total, value_cmp-exact}
use Rattle.value.specs.declared.key.Key.{Key}
use Rattle.value.specs.declared.value.Value.{Value}
use Rattle.value.proofs.Basics.{Equal-from_eq, Greater-from_le, Less-from_le, slice_get-drop, slice_get-none}
use Rattle.schema.specs.declared.row.Row.{Row}
use Rattle.schema.specs.declared.reader.Bound.{Bound}
use Rattle.schema.specs.Paged.{row_key}
use Rattle.schema.specs.Pages.{has_items, IsLeast, IsBehind}
use Rattle.schema.specs.Plain.{same, changed}
use Rattle.schema.specs.Rows.{Rows, is_within, next_row, put_row, IsInKeyOrder}
use Rattle.schema.proofs.PageLemmas.{least-trans, least-from, least-after, in_order-drop}
use Rattle.schema.proofs.PagedLemmas.{IsLocal, local-parted}

module _ {A : Type 0} where
  -- ---- the order of keys

  reversed : (a k : Value A) → value_cmp k a ≡ Greater → value_cmp a k ≡ Less
  reversed a k e = value_cmp-total.antisymm a k ∙ ap ordering_reverse e

  put_row-least : (a : Value A) (row : Row A) (rows : Rows A) → value_cmp a row.0 ≡ Less → IsLeast row_key a rows → IsLeast row_key a (put_row rows row)
  put_row-least a row [] below least = (below, least)
  put_row-least a row (r ∷ rs) below least = by_order (value_cmp row.0 r.0) (put_row-least a row rs below least.1)
    where
      by_order : (o : Ordering) → IsLeast row_key a (put_row rs row) → IsLeast row_key a (match_ordering o (row ∷ r ∷ rs) (row ∷ rs) (r ∷ put_row rs row))
      by_order Less rest = (below, least)
      by_order Equal rest = (below, least.1)
      by_order Greater rest = (least.0, rest)

  pub put_row-in_order : (row : Row A) (rows : Rows A) → IsInKeyOrder rows → IsInKeyOrder (put_row rows row)
  unfolding IsStrictlySortedBy
  put_row-in_order row [] sorted = (tt, tt)
  put_row-in_order row (r ∷ rs) sorted = by_order (value_cmp row.0 r.0) refl (put_row-in_order row rs sorted.1)
    where
      by_order : (o : Ordering) → value_cmp row.0 r.0 ≡ o → IsInKeyOrder (put_row rs row) → IsInKeyOrder (match_ordering o (row ∷ r ∷ rs) (row ∷ rs) (r ∷ put_row rs row))
      by_order Less is rest = ((is, least-trans row_key row.0 r.0 rs is sorted.0), sorted)
      by_order Equal is rest = (subst (λ k. IsLeast row_key k rs) (sym (value_cmp-exact row.0 r.0 is)) sorted.0, sorted.1)
      by_order Greater is rest = (put_row-least r.0 row rs (reversed r.0 row.0 is) sorted.0, rest)

  gone-least : (a k : Value A) (rows : Rows A) → IsLeast row_key a rows → IsLeast row_key a (changed k None rows)
  gone-least a k [] least = tt
  gone-least a k (r ∷ rs) least = by_test (not (same k r.0)) (gone-least a k rs least.1)
    where
      by_test : (b : Bool) → IsLeast row_key a (changed k None rs) → IsLeast row_key a (cond b (r ∷ changed k None rs) (changed k None rs))
      by_test true rest = (least.0, rest)
      by_test false rest = rest

  pub gone-in_order : (k : Value A) (rows : Rows A) → IsInKeyOrder rows → IsInKeyOrder (changed k None rows)
  unfolding IsStrictlySortedBy
  gone-in_order k [] sorted = tt
  gone-in_order k (r ∷ rs) sorted = by_test (not (same k r.0)) (gone-in_order k rs sorted.1)
    where
      by_test : (b : Bool) → IsInKeyOrder (changed k None rs) → IsInKeyOrder (cond b (r ∷ changed k None rs) (changed k None rs))
      by_test true rest = (gone-least r.0 k rs sorted.0, rest)
      by_test false rest = rest

  -- ---- runs of rows

  -- a row whose key is above all of a first run
  pub put-behind : (row : Row A) (xs ys : Rows A) → IsBehind row_key row.0 xs → put_row (xs ++ ys) row ≡ xs ++ put_row ys row
  put-behind row [] ys behind = refl
  put-behind row (x ∷ xs) ys behind = rw (Greater-from_le (value_cmp row.0 x.0) behind.0) (ap (λ rest. x ∷ rest) (put-behind row xs ys behind.1))

  -- above all
  pub put-last : (row : Row A) (xs : Rows A) → IsBehind row_key row.0 xs → put_row xs row ≡ xs ++ row ∷ []
  put-last row [] behind = refl
  put-last row (x ∷ xs) behind = rw (Greater-from_le (value_cmp row.0 x.0) behind.0) (ap (λ rest. x ∷ rest) (put-last row xs behind.1))

  put-first : (row : Row A) (ys : Rows A) → IsLeast row_key row.0 ys → put_row ys row ≡ row ∷ ys
  put-first row [] least = refl
  put-first row (y ∷ ys) least = rw least.0 refl

  -- below all of a second run
  pub put-ahead : (row : Row A) (xs ys : Rows A) → IsLeast row_key row.0 ys → put_row (xs ++ ys) row ≡ put_row xs row ++ ys
  put-ahead row [] ys least = put-first row ys least
  put-ahead row (x ∷ xs) ys least = by_order (value_cmp row.0 x.0) (put-ahead row xs ys least)
    where
      by_order : (o : Ordering) → put_row (xs ++ ys) row ≡ put_row xs row ++ ys → match_ordering o (row ∷ x ∷ (xs ++ ys)) (row ∷ (xs ++ ys)) (x ∷ put_row (xs ++ ys) row) ≡ match_ordering o (row ∷ x ∷ xs) (row ∷ xs) (x ∷ put_row xs row) ++ ys
      by_order Less rest = refl
      by_order Equal rest = refl
      by_order Greater rest = ap (λ left. x ∷ left) rest

  pub gone-behind : (k : Value A) (xs ys : Rows A) → IsBehind row_key k xs → changed k None (xs ++ ys) ≡ xs ++ changed k None ys
  gone-behind k [] ys behind = refl
  gone-behind k (x ∷ xs) ys behind = rw (Greater-from_le (value_cmp k x.0) behind.0) (ap (λ rest. x ∷ rest) (gone-behind k xs ys behind.1))

  -- rows of greater keys stay
  pub gone-none : (k : Value A) (rows : Rows A) → IsLeast row_key k rows → changed k None rows ≡ rows
  gone-none k [] least = refl
  gone-none k (row ∷ rows) least = rw least.0 (ap (λ rest. row ∷ rest) (gone-none k rows least.1))

  pub gone-ahead : (k : Value A) (xs ys : Rows A) → IsLeast row_key k ys → changed k None (xs ++ ys) ≡ changed k None xs ++ ys
  gone-ahead k [] ys least = gone-none k ys least
  gone-ahead k (x ∷ xs) ys least = by_test (not (same k x.0)) (gone-ahead k xs ys least)
    where
      by_test : (b : Bool) → changed k None (xs ++ ys) ≡ changed k None xs ++ ys → cond b (x ∷ changed k None (xs ++ ys)) (changed k None (xs ++ ys)) ≡ cond b (x ∷ changed k None xs) (changed k None xs) ++ ys
      by_test true rest = ap (λ left. x ∷ left) rest
      by_test false rest = rest

  -- what is put in, and what is taken away, has no part of other keys
  pub put-local : (row : Row A) → IsLocal row_key row.0 (λ rows. put_row rows row)
  put-local row = record { behind = put-behind row; ahead = put-ahead row; ordered = put_row-in_order row }

  pub put-has_rows : (row : Row A) (rows : Rows A) → has_items (put_row rows row) ≡ true
  put-has_rows row [] = refl
  put-has_rows row (r ∷ rs) = by_order (value_cmp row.0 r.0)
    where
      by_order : (o : Ordering) → has_items (match_ordering o (row ∷ r ∷ rs) (row ∷ rs) (r ∷ put_row rs row)) ≡ true
      by_order Less = refl
      by_order Equal = refl
      by_order Greater = refl

  pub gone-local : (k : Value A) → IsLocal row_key k (changed k None)
  gone-local k = record { behind = gone-behind k; ahead = gone-ahead k; ordered = gone-in_order k }

  -- ---- the next row

  next-early : (bound : Bound (Bor (Key A))) (i : ℕ) (rows : Rows A) → AllByRecursion (λ r. is_within bound r.0 ≡ false) (take i rows) → next_row rows bound ≡ next_row (drop i rows) bound
  next-early bound zero rows early = refl
  next-early bound (suc i) [] early = refl
  next-early bound (suc i) (r ∷ rs) early = rw early.0 (next-early bound i rs early.1)

  next-late : (bound : Bound (Bor (Key A))) (i : ℕ) (rows : Rows A) → AllByRecursion (λ r. is_within bound r.0 ≡ true) (drop i rows) → next_row (drop i rows) bound ≡ slice_get rows i
  next-late bound zero [] late = refl
  next-late bound zero (r ∷ rs) late = rw late.0 refl
  next-late bound (suc i) [] late = refl
  next-late bound (suc i) (r ∷ rs) late = next-late bound i rs late

  pub next-at : (bound : Bound (Bor (Key A))) (i : ℕ) (rows : Rows A) → AllByRecursion (λ r. is_within bound r.0 ≡ false) (take i rows) → AllByRecursion (λ r. is_within bound r.0 ≡ true) (drop i rows) → next_row rows bound ≡ slice_get rows i
  next-at bound i rows early late = next-early bound i rows early ∙ next-late bound i rows late

  -- ---- what is put in or taken away at a place

  -- what stands at a place is the row of a key, or not
  there : (k : Value A) (i : ℕ) (rows : Rows A) (o : Option (Row A)) → slice_get rows i ≡ o → option_map_or (λ r. same k r.0) o false ≡ true → (r : Row A) × (slice_get rows i ≡ Some r) × (value_cmp k r.0 ≡ Equal)
  there k i rows None at is = cc
  there k i rows (Some r) at is = (r, at, Equal-from_eq (value_cmp k r.0) is)

  pub put-over : (row : Row A) (i : ℕ) (rows : Rows A) → IsBehind row_key row.0 (take i rows) → option_map_or (λ r. same row.0 r.0) (slice_get rows i) false ≡ true → set rows i row ≡ put_row rows row
  put-over row i rows early is =
      let found = there row.0 i rows (slice_get rows i) refl is in
      let e : put_row (found.0 ∷ drop (suc i) rows) row ≡ row ∷ drop (suc i) rows = rw found.2 refl in
      set_split rows i row (slice_get_within rows i found.0 found.1)
      ∙ sym (local-parted row_key row.0 (λ rs. put_row rs row) i rows (put-local row) early ∙ ap (λ rs. take i rows ++ put_row rs row) (slice_get-drop rows i found.0 found.1) ∙ ap (λ rs. take i rows ++ rs) e)

  pub put-new : (row : Row A) (i : ℕ) (rows : Rows A) → IsBehind row_key row.0 (take i rows) → AllByRecursion (λ r. is_le (value_cmp row.0 r.0) ≡ true) (drop i rows) → option_map_or (λ r. same row.0 r.0) (slice_get rows i) false ≡ false
      → take i rows ++ row ∷ drop i rows ≡ put_row rows row
  put-new row i rows early late isnt = go (slice_get rows i) refl isnt
    where
      go : (o : Option (Row A)) → slice_get rows i ≡ o → option_map_or (λ r. same row.0 r.0) o false ≡ false → take i rows ++ row ∷ drop i rows ≡ put_row rows row
      go None at e = ap (λ rs. take i rows ++ row ∷ rs) (slice_get-none rows i at) ∙ sym (local-parted row_key row.0 (λ rs. put_row rs row) i rows (put-local row) early ∙ ap (λ rs. take i rows ++ put_row rs row) (slice_get-none rows i at))
      go (Some r) at e =
          let cut = slice_get-drop rows i r at in
          let late_here = subst (AllByRecursion (λ (r : Row A). is_le (value_cmp row.0 r.0) ≡ true)) cut late in
          let below : value_cmp row.0 r.0 ≡ Less = Less-from_le (value_cmp row.0 r.0) late_here.0 e in
          let f : put_row (r ∷ drop (suc i) rows) row ≡ row ∷ r ∷ drop (suc i) rows = rw below refl in
          ap (λ rs. take i rows ++ row ∷ rs) cut
          ∙ sym (local-parted row_key row.0 (λ rs. put_row rs row) i rows (put-local row) early ∙ ap (λ rs. take i rows ++ put_row rs row) cut ∙ ap (λ rs. take i rows ++ rs) f)

  pub gone-at : (k : Value A) (i : ℕ) (rows new : Rows A) → IsInKeyOrder rows → IsBehind row_key k (take i rows) → option_map_or (λ r. same k r.0) (slice_get rows i) false ≡ true → new ≡ take i rows ++ drop (suc i) rows → new ≡ changed k None rows
  gone-at k i rows new sorted early is removed =
      let found = there k i rows (slice_get rows i) refl is in
      let cut : drop i rows ≡ found.0 ∷ drop (suc i) rows = slice_get-drop rows i found.0 found.1 in
      let least = least-from row_key k found.0 (drop (suc i) rows) (subst IsInKeyOrder cut (in_order-drop row_key i rows sorted)) found.2 in
      let e : changed k None (found.0 ∷ drop (suc i) rows) ≡ drop (suc i) rows = rw found.2 (gone-none k (drop (suc i) rows) least) in
      removed ∙ sym (local-parted row_key k (changed k None) i rows (gone-local k) early ∙ ap (λ rs. take i rows ++ changed k None rs) cut ∙ ap (λ rs. take i rows ++ rs) e)

  pub gone-missing : (k : Value A) (i : ℕ) (rows : Rows A) → IsInKeyOrder rows → IsBehind row_key k (take i rows) → AllByRecursion (λ r. is_le (value_cmp k r.0) ≡ true) (drop i rows) → option_map_or (λ r. same k r.0) (slice_get rows i) false ≡ false → rows ≡ changed k None rows
  unfolding IsStrictlySortedBy
  gone-missing k i rows sorted early late isnt = go (slice_get rows i) refl isnt
    where
      go : (o : Option (Row A)) → slice_get rows i ≡ o → option_map_or (λ r. same k r.0) o false ≡ false → rows ≡ changed k None rows
      go None at e = sym (local-parted row_key k (changed k None) i rows (gone-local k) early ∙ ap (λ rs. take i rows ++ changed k None rs) (slice_get-none rows i at) ∙ ap (λ rs. take i rows ++ rs) (sym (slice_get-none rows i at)) ∙ take-append-drop i rows)
      go (Some r) at e =
          let cut = slice_get-drop rows i r at in
          let late_here = subst (AllByRecursion (λ (r : Row A). is_le (value_cmp k r.0) ≡ true)) cut late in
          let below : value_cmp k r.0 ≡ Less = Less-from_le (value_cmp k r.0) late_here.0 e in
          let sorted_here = subst IsInKeyOrder cut (in_order-drop row_key i rows sorted) in
          let least = least-after row_key k r (drop (suc i) rows) sorted_here below in
          sym (local-parted row_key k (changed k None) i rows (gone-local k) early ∙ ap (λ rs. take i rows ++ changed k None rs) cut ∙ ap (λ rs. take i rows ++ rs) (gone-none k (r ∷ drop (suc i) rows) least ∙ sym cut) ∙ take-append-drop i rows)

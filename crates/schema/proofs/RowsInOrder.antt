-- Reading rows one after another, each after the key of the one before.
use Rattle.std.proofs.Common.{◌≡◌, Bool, true, false, cond, [], ◌∷◌, ◌++◌, map, Option, Some, None, Bor, refl, sym, ap, subst, ◌∙◌, append_assoc}
use Rattle.std.specs.List.{AllByRecursion, find}
use Rattle.std.specs.List.Sorted.{IsStrictlySortedBy}
use Rattle.std.specs.Option.{option_copied}
use Rattle.std.specs.Ordering.{is_le, is_lt, ordering_reverse}
use Rattle.std.specs.declared.cmp.Ordering.{Ordering}
use Rattle.std.specs.declared.cmp.Ordering.TheVariants.{Less, Equal, Greater}
use Rattle.std.proofs.lemmas.Cmp.{tied_itself}
use Rattle.value.specs.Order.{value_cmp, value_cmp-total}
use Rattle.value.specs.declared.key.Key.{Key}
use Rattle.schema.specs.declared.row.Row.{Row}
use Rattle.schema.specs.declared.reader.Bound.{Bound}
use Rattle.schema.specs.declared.reader.Bound.TheVariants.{Start, From, After}
use Rattle.schema.specs.Rows.{Rows, is_within, next_row, rows_within, rows_after, rows_left, put_row, IsInKeyOrder}

module _ {A : Type 0} where
  -- what comes after a key that is within a bound is within it too
  pub later_within : (bound : Bound (Bor (Key A))) (k l : Key A) → value_cmp k l ≡ Less → is_within bound k ≡ true → is_within bound l ≡ true
  later_within Start k l later within = refl
  later_within (From first) k l later within = by_order (value_cmp first.now k) refl within
    where
      by_order : (o : Ordering) → value_cmp first.now k ≡ o → is_le o ≡ true → is_le (value_cmp first.now l) ≡ true
      by_order Less is h = rw (value_cmp-total.trans first.now k l is later) refl
      by_order Equal is h = rw (value_cmp-total.congr first.now k l is, later) refl
      by_order Greater is h = cc
  later_within (After before) k l later within = by_order (value_cmp before.now k) refl within
    where
      by_order : (o : Ordering) → value_cmp before.now k ≡ o → is_lt o ≡ true → is_lt (value_cmp before.now l) ≡ true
      by_order Less is h = rw (value_cmp-total.trans before.now k l is later) refl
      by_order Equal is h = cc
      by_order Greater is h = cc

  -- all rows that come after one within a bound are within it
  all_within : (bound : Bound (Bor (Key A))) (k : Key A) (rows : Rows A) → AllByRecursion (λ l. value_cmp k l ≡ Less) (map (λ row. row.0) rows) → is_within bound k ≡ true → rows_within rows bound ≡ rows
  all_within bound k [] later within = refl
  all_within bound k (row ∷ rows) later within = rw (later_within bound k row.0 later.0 within) (ap (λ rest. row ∷ rest) (all_within bound k rows later.1 within))

  -- and all rows that come after a key come after it
  all_after : (key : Bor (Key A)) (k : Key A) (rows : Rows A) → key.now ≡ k → AllByRecursion (λ l. value_cmp k l ≡ Less) (map (λ row. row.0) rows) → rows_within rows (After key) ≡ rows
  all_after key k [] same later = refl
  all_after key k (row ∷ rows) same later = rw (same, later.0) (ap (λ rest. row ∷ rest) (all_after key k rows same later.1))

  -- what holds of each key holds of the one that is found
  found_has : (P : Key A → Type 0) (p : Key A → Bool) (rows : Rows A) (row : Row A) → AllByRecursion P (map (λ row. row.0) rows) → find (λ row. p row.0) rows ≡ Some row → P row.0
  found_has P p [] row all found = cc
  found_has P p (first ∷ rows) row all found = by_test (p first.0) found all.0 (found_has P p rows row all.1)
    where
      by_test : (b : Bool) → cond b (Some first) (find (λ row. p row.0) rows) ≡ Some row → P first.0 → (find (λ row. p row.0) rows ≡ Some row → P row.0) → P row.0
      by_test true is here rest = let e : first ≡ row = cc in subst (λ r. P r.0) e here
      by_test false is here rest = rest is

  -- the rows within a bound are the next one, and those after its key
  pub next_row-rest : (rows : Rows A) (bound : Bound (Bor (Key A))) (row : Row A) (key : Bor (Key A)) → IsInKeyOrder rows → key.now ≡ row.0 → next_row rows bound ≡ Some row → rows_within rows bound ≡ row ∷ rows_within rows (After key)
  unfolding IsStrictlySortedBy
  next_row-rest [] bound row key sorted same found = cc
  next_row-rest (first ∷ rows) bound row key sorted same found = by_test (is_within bound first.0) refl found sorted.0 (next_row-rest rows bound row key sorted.1 same)
    where
      by_test : (b : Bool) → is_within bound first.0 ≡ b → cond b (Some first) (next_row rows bound) ≡ Some row → AllByRecursion (λ l. value_cmp first.0 l ≡ Less) (map (λ row. row.0) rows)
          → (next_row rows bound ≡ Some row → rows_within rows bound ≡ row ∷ rows_within rows (After key))
          → cond b (first ∷ rows_within rows bound) (rows_within rows bound) ≡ row ∷ cond (is_within (After key) first.0) (first ∷ rows_within rows (After key)) (rows_within rows (After key))
      by_test true within is later rest =
          let e : first ≡ row = cc in
          let here : key.now ≡ first.0 = same ∙ ap (λ r. r.0) (sym e) in
          let tie : value_cmp key.now first.0 ≡ Equal = rw here (tied_itself value_cmp-total first.0) in
          rw (tie, all_within bound first.0 rows later within, all_after key first.0 rows here later) (ap (λ r. r ∷ rows) e)
      by_test false outside is later rest =
          let below : value_cmp first.0 row.0 ≡ Less = found_has (λ l. value_cmp first.0 l ≡ Less) (is_within bound) rows row later is in
          let above : value_cmp key.now first.0 ≡ Greater = rw same (value_cmp-total.antisymm row.0 first.0 ∙ ap ordering_reverse below) in
          rw above (rest is)

  -- where there is no next row, there is none within the bound
  pub next_row-none : (rows : Rows A) (bound : Bound (Bor (Key A))) → next_row rows bound ≡ None → rows_within rows bound ≡ []
  next_row-none [] bound none = refl
  next_row-none (row ∷ rows) bound none = by_test (is_within bound row.0) none (next_row-none rows bound)
    where
      by_test : (b : Bool) → cond b (Some row) (next_row rows bound) ≡ None → (next_row rows bound ≡ None → rows_within rows bound ≡ []) → cond b (row ∷ rows_within rows bound) (rows_within rows bound) ≡ []
      by_test true is rest = cc
      by_test false is rest = rest is

  -- at the start are all rows
  pub rows_within-start : (rows : Rows A) → rows_within rows Start ≡ rows
  rows_within-start [] = refl
  rows_within-start (row ∷ rows) = ap (λ rest. row ∷ rest) (rows_within-start rows)

  -- what is left once the next row is read
  pub rows_left-next : (rows : Rows A) (bound : Bound (Bor (Key A))) (next : Option (Bor (Row A))) → IsInKeyOrder rows → option_copied next ≡ next_row rows bound → rows_left rows next ≡ rows_within rows bound
  rows_left-next rows bound None sorted read = sym (next_row-none rows bound (sym read))
  rows_left-next rows bound (Some row) sorted read = sym (next_row-rest rows bound row.now (record { ref_ptr = row.ref_ptr; now = row.now.0 }) sorted refl (sym read))

  -- a reading starts with all rows left
  pub rows_left-start : (rows : Rows A) (first : Option (Bor (Row A))) → IsInKeyOrder rows → option_copied first ≡ next_row rows Start → rows_left rows first ≡ rows
  rows_left-start rows first sorted read = rows_left-next rows Start first sorted read ∙ rows_within-start rows

  -- and goes on with one row less
  pub rows_left-step : (rows : Rows A) (row : Bor (Row A)) (key : Bor (Key A)) (next : Option (Bor (Row A))) → key.now ≡ row.now.0 → IsInKeyOrder rows → option_copied next ≡ next_row rows (After key) → rows_left rows (Some row) ≡ row.now ∷ rows_left rows next
  rows_left-step rows row key next same sorted read = ap (λ rest. row.now ∷ rest) (ap (rows_after rows) (sym same) ∙ sym (rows_left-next rows (After key) next sorted read))

  -- what holds of each key holds of one in the middle
  among : (P : Key A → Type 0) (done : Rows A) (row : Row A) (rest : Rows A) → AllByRecursion P (map (λ r. r.0) (done ++ row ∷ rest)) → P row.0
  among P [] row rest all = all.0
  among P (first ∷ done) row rest all = among P done row rest all.1

  -- a row above all others is put last
  pub put_row-last : (done : Rows A) (row : Row A) (rest : Rows A) → IsInKeyOrder (done ++ row ∷ rest) → put_row done row ≡ done ++ row ∷ []
  unfolding IsStrictlySortedBy
  put_row-last [] row rest sorted = refl
  put_row-last (first ∷ done) row rest sorted =
      let below : value_cmp first.0 row.0 ≡ Less = among (λ l. value_cmp first.0 l ≡ Less) done row rest sorted.0 in
      let above : value_cmp row.0 first.0 ≡ Greater = value_cmp-total.antisymm row.0 first.0 ∙ ap ordering_reverse below in
      rw above (ap (λ rows. first ∷ rows) (put_row-last done row rest sorted.1))

  -- a row copied and put last, and those left
  pub copied-step : (rows done more : Rows A) (row : Bor (Row A)) (next : Option (Bor (Row A))) → IsInKeyOrder rows → done ++ rows_left rows (Some row) ≡ rows → rows_left rows next ≡ rows_after rows row.now.0 → more ≡ put_row done row.now → more ++ rows_left rows next ≡ rows
  copied-step rows done more row next sorted so_far left made =
      let last = put_row-last done row.now (rows_after rows row.now.0) (subst IsInKeyOrder (sym so_far) sorted) in
      ap (λ rs. rs ++ rows_left rows next) (made ∙ last) ∙ append_assoc done (row.now ∷ []) (rows_left rows next) ∙ ap (λ rest. done ++ row.now ∷ rest) left ∙ so_far

-- Rows read at once, and the rows behind them.
use Rattle.std.proofs.Common.{◌≡◌, ℕ, zero, suc, ◌+◌, ◌<◌, ◌-◌, List, [], ◌∷◌, ◌++◌, length, drop, take, Option, Some, None, Result, Ok, Err, IfOk, Vec, Bor, refl, sym, ap, subst, ◌∙◌, append_assoc, arith}
use Rattle.std.specs.List.{slice_get}
use Rattle.std.proofs.lemmas.List.{length-append, length-map, map-append}
use Rattle.std.proofs.lemmas.Option.{slice_get-map}
use Rattle.value.specs.declared.key.Key.{Key}
use Rattle.schema.specs.declared.row.Row.{Row}
use Rattle.schema.specs.declared.reader.Bound.{Bound}
use Rattle.schema.specs.declared.reader.Bound.TheVariants.{After}
use Rattle.schema.specs.Rows.{Rows, next_row, rows_within, rows_after, rows_left, IsInKeyOrder}
use Rattle.schema.specs.Walking.{lent, rows_behind, rows_to_come}
use Rattle.schema.proofs.RowsInOrder.{next_row-rest, next_row-none}

module _ {A : Type 0} where
  -- the first so many of these rows, and those behind them in the table, are all of them
  abbrev Splits : Rows A → ℕ → Rows A → Type 0
  Splits rows n within = take n within ++ rows_behind rows (take n within) ≡ within

  none : (rows : Rows A) (n : ℕ) (within : Rows A) → within ≡ [] → Splits rows (suc n) within
  none rows n within is = rw is refl

  one : (rows : Rows A) (row : Row A) → Splits rows 1 (row ∷ rows_after rows row.0)
  one rows row = refl

  more : (rows : Rows A) (n : ℕ) (row : Row A) (rest : Rows A) → rest ≡ rows_after rows row.0 → Splits rows (suc n) rest → Splits rows (suc (suc n)) (row ∷ rest)
  more rows n row [] is left = ap (λ r. row ∷ r) (sym is)
  more rows n row (next ∷ rest) is left = ap (λ r. row ∷ r) left

  -- the rows within a bound are the next one and those after its key
  row_and_rest : (rows : Rows A) (bound : Bound (Bor (Key A))) (row : Row A) → IsInKeyOrder rows → next_row rows bound ≡ Some row → rows_within rows bound ≡ row ∷ rows_after rows row.0
  row_and_rest rows bound row sorted found = next_row-rest rows bound row (record { ref_ptr = (0, 0); now = row.0 }) sorted refl found

  -- a row more is read, and one less is left
  pub one_more : (rows : Rows A) (read more : List (Bor (Row A))) (row : Bor (Row A)) (next : Option (Bor (Row A))) → more ≡ read ++ row ∷ [] → rows_left rows next ≡ rows_after rows row.now.0
      → lent more ++ rows_left rows next ≡ lent read ++ rows_left rows (Some row)
  one_more rows read more row next is left = rw (is, map-append (λ r. r.now) read (row ∷ []), left) (append_assoc (lent read) (row.now ∷ []) (rows_after rows row.now.0))

  -- they are one more, and so many as are lent
  pub one_longer : (read more : List (Bor (Row A))) (row : Bor (Row A)) → more ≡ read ++ row ∷ [] → (length (lent more) ≡ length read + 1) × (length (lent read) ≡ length read)
  one_longer read more row is = (length-map more (λ r. r.now) ∙ ap length is ∙ length-append read (row ∷ []), length-map read (λ r. r.now))

  -- so it is for the first so many within a bound
  pub splits : (n : ℕ) (rows : Rows A) (bound : Bound (Bor (Key A))) → IsInKeyOrder rows → Splits rows (suc n) (rows_within rows bound)
  splits zero rows bound sorted = by_next (next_row rows bound) refl
    where
      by_next : (next : Option (Row A)) → next_row rows bound ≡ next → Splits rows 1 (rows_within rows bound)
      by_next None is = none rows 0 _ (next_row-none rows bound is)
      by_next (Some row) is = subst (Splits rows 1) (sym (row_and_rest rows bound row sorted is)) (one rows row)
  splits (suc n) rows bound sorted = by_next (next_row rows bound) refl (λ b. splits n rows b sorted)
    where
      by_next : (next : Option (Row A)) → next_row rows bound ≡ next → ((b : Bound (Bor (Key A))) → Splits rows (suc n) (rows_within rows b)) → Splits rows (suc (suc n)) (rows_within rows bound)
      by_next None is rest = none rows (suc n) _ (next_row-none rows bound is)
      by_next (Some row) is rest = subst (Splits rows (suc (suc n))) (sym (row_and_rest rows bound row sorted is)) (more rows n row (rows_after rows row.0) refl (rest (After (record { ref_ptr = (0, 0); now = row.0 }))))

  -- a batch that was read, and what is still to come
  pub batch_read : (n : ℕ) (rows : Rows A) (bound : Bound (Bor (Key A))) (batch : List (Bor (Row A))) → 0 < n → IsInKeyOrder rows → lent batch ≡ take n (rows_within rows bound) → rows_to_come rows (lent batch) 0 ≡ rows_within rows bound
  batch_read zero rows bound batch some sorted read = absurd (omega arith)
  batch_read (suc n) rows bound batch some sorted read = rw read (splits n rows bound sorted)

  -- what is behind the last row read
  pub behind_last : (rows : Rows A) (batch : Rows A) (last : Row A) → slice_get batch (length batch - 1) ≡ Some last → rows_behind rows batch ≡ rows_after rows last.0
  behind_last rows [] last is = absurd cc
  behind_last rows (row ∷ []) last is = let same : row ≡ last = cc in ap (λ r. rows_after rows r.0) same
  behind_last rows (row ∷ next ∷ batch) last is =
      let inner : length (row ∷ next ∷ batch) - 1 ≡ suc (length (next ∷ batch) - 1) = omega arith in
      behind_last rows (next ∷ batch) last (sym (ap (slice_get (row ∷ next ∷ batch)) inner) ∙ is)

  drop_given : (batch : Rows A) (place : ℕ) (row : Row A) → slice_get batch place ≡ Some row → drop place batch ≡ row ∷ drop (suc place) batch
  drop_given [] place row is = absurd cc
  drop_given (first ∷ batch) zero row is = let same : first ≡ row = cc in ap (λ r. r ∷ batch) same
  drop_given (first ∷ batch) (suc place) row is = drop_given batch place row is

  -- the row at a place is the first to come
  pub given_here : (rows batch left : Rows A) (place : ℕ) (row : Row A) → rows_to_come rows batch place ≡ left → Some row ≡ slice_get batch place → left ≡ row ∷ rows_to_come rows batch (place + 1)
  given_here rows batch left place row came is =
      let next : place + 1 ≡ suc place = omega arith in
      rw next (sym came ∙ ap (λ rest. rest ++ rows_behind rows batch) (drop_given batch place row (sym is)))

  -- where there is none, those behind the batch are to come
  drop_none : (batch : Rows A) (place : ℕ) → slice_get batch place ≡ None → drop place batch ≡ []
  drop_none [] zero is = refl
  drop_none [] (suc place) is = refl
  drop_none (row ∷ batch) zero is = absurd cc
  drop_none (row ∷ batch) (suc place) is = drop_none batch place is

  pub none_here : (rows batch left : Rows A) (place : ℕ) → rows_to_come rows batch place ≡ left → None ≡ slice_get batch place → left ≡ rows_behind rows batch
  none_here rows batch left place came is = sym came ∙ ap (λ rest. rest ++ rows_behind rows batch) (drop_none batch place (sym is))

  -- a batch of none is behind the last row
  pub none_read : (rows batch left : Rows A) → rows_to_come rows batch 0 ≡ left → None ≡ slice_get batch 0 → (left ≡ []) × (rows_to_come rows batch 0 ≡ [])
  none_read rows [] left came is = (sym came, refl)
  none_read rows (row ∷ batch) left came is = absurd cc

  -- the rows read behind the last one of a batch
  pub batch_behind : {E : Type 0} (n : ℕ) (rows : Rows A) (batch : List (Bor (Row A))) (last : Bor (Row A)) (key : Bor (Key A)) (next : Result (Vec (Bor (Row A)) A) E) → 0 < n → IsInKeyOrder rows → Some last ≡ slice_get batch (length batch - 1) → key.now ≡ last.now.0
      → IfOk next (λ r. lent r.items ≡ take n (rows_within rows (After key))) → IfOk next (λ r. rows_to_come rows (lent r.items) 0 ≡ rows_behind rows (lent batch))
  batch_behind n rows batch last key (Ok next) some sorted is_last is_key read =
      batch_read n rows (After key) next.items some sorted read
      ∙ ap (rows_after rows) is_key
      ∙ sym (behind_last rows (lent batch) last.now (rw (length-map batch (λ row. row.now), slice_get-map (λ row. row.now) batch (length batch - 1), sym is_last) refl))
  batch_behind n rows batch last key (Err error) some sorted is_last is_key read = tt

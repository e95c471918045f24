-- A table's rows, read a piece at once: where the table is cut.
use Rattle.std.proofs.Common.{◌≡◌, ℕ, zero, suc, ◌+◌, ◌-◌, ◌<◌, ◌==◌, false, Bor, List, [], ◌∷◌, ◌++◌, length, take, Option, Some, None, refl, sym, ap, ◌∙◌, append_assoc, arith}
use Rattle.std.specs.List.{slice_get}
use Rattle.std.proofs.lemmas.Bool.Decides.{nat_tests}
use Rattle.std.proofs.lemmas.List.{length-append, length-map}
use Rattle.std.proofs.lemmas.Option.{slice_get-map}
use Rattle.value.specs.declared.key.Key.{Key}
use Rattle.schema.specs.declared.row.Row.{Row}
use Rattle.schema.specs.Rows.{IsInKeyOrder, rows_after, rows_within}
use Rattle.schema.specs.declared.reader.Bound.{Bound}
use Rattle.schema.specs.Walking.{lent, rows_behind}
use Rattle.schema.proofs.WalkLemmas.{batch_read, behind_last}
use Rattle.dumpplan.specs.Pieces.{cuts, first_key, to_come, IsBatch}

not_zero : (n : ℕ) → (suc n == 0) ≡ false
not_zero n = grind (arith, nat_tests)

module _ {A : Type 0} where
  -- what was read within a bound is a batch of the rows within it
  pub is_batch : (most : ℕ) (rows : List (Row A)) (bound : Bound (Bor (Key A))) (batch : List (Bor (Row A))) → 0 < most → IsInKeyOrder rows → lent batch ≡ take most (rows_within rows bound) → IsBatch most rows (rows_within rows bound) batch
  is_batch most rows bound batch some sorted read =
      let all : to_come rows batch ≡ rows_within rows bound = batch_read most rows bound batch some sorted read in
      (read ∙ ap (take most) (sym all), all)

  -- ---- cuts

  -- a piece with room begins a further one nowhere but after its rows
  fresh : (most : ℕ) (row : Row A) (rows : List (Row A)) → 0 < most → cuts most most (row ∷ rows) ≡ cuts most (most - 1) rows
  fresh most row rows some = let full : (most == 0) ≡ false = grind (arith, nat_tests) in rw full refl

  -- the first `room` rows fill a piece, or are the last
  cuts-room : (most room : ℕ) (batch more : List (Row A)) → 0 < most → batch ≡ take room (batch ++ more) → cuts most room (batch ++ more) ≡ first_key more ++ cuts most most more
  cuts-room most room [] [] some is = refl
  cuts-room most zero [] (row ∷ rows) some is = ap (λ ks. row.0 ∷ ks) (sym (fresh most row rows some))
  cuts-room most (suc room) [] (row ∷ rows) some is = absurd cc
  cuts-room most zero (first ∷ batch) more some is = absurd cc
  cuts-room most (suc room) (first ∷ batch) more some is =
      let tail : batch ≡ take room (batch ++ more) = cc in
      let less : suc room - 1 ≡ room = omega arith in
      rw (not_zero room, less) (cuts-room most room batch more some tail)

  first-taken : (most : ℕ) (rows : List (Row A)) → 0 < most → first_key (take most rows) ≡ first_key rows
  first-taken zero rows some = absurd (omega arith)
  first-taken (suc most) [] some = refl
  first-taken (suc most) (row ∷ rows) some = refl

  -- once the rows after a batch are read, its own are counted, and the first of these is a cut
  pub cut_next : (most n count : ℕ) (keys more : List (Key A)) (total : List (Key A)) (rows : List (Row A)) (batch next : List (Bor (Row A))) → 0 < most
      → lent batch ≡ take most (to_come rows batch) → IsBatch most rows (rows_behind rows (lent batch)) next → more ≡ keys ++ first_key (lent next)
      → keys ++ cuts most most (to_come rows batch) ≡ total → n + length (to_come rows batch) ≡ count
      → (more ++ cuts most most (to_come rows next) ≡ total) × (n + length batch + length (to_come rows next) ≡ count)
  cut_next most n count keys more total rows batch next some read behind made so_far counted =
      let left : List (Row A) = to_come rows next in
      let here : to_come rows batch ≡ lent batch ++ left = ap (λ rs. lent batch ++ rs) (sym behind.1) in
      let taken : lent batch ≡ take most (lent batch ++ left) = read ∙ ap (take most) here in
      let cut : cuts most most (to_come rows batch) ≡ first_key left ++ cuts most most left = ap (cuts most most) here ∙ cuts-room most most (lent batch) left some taken in
      let key : first_key (lent next) ≡ first_key left = ap first_key behind.0 ∙ first-taken most left some in
      let all : length (to_come rows batch) ≡ length (lent batch) + length left = ap length here ∙ length-append (lent batch) left in
      let own : length (lent batch) ≡ length batch = length-map batch (λ row. row.now) in (
        ap (λ ks. ks ++ cuts most most left) (made ∙ ap (λ k. keys ++ k) key)
            ∙ append_assoc keys (first_key left) (cuts most most left)
            ∙ ap (λ ks. keys ++ ks) (sym cut)
            ∙ so_far,
        omega (arith, all, own, counted),
      )

  -- fewer rows are to come
  pub fewer : (most : ℕ) (rows : List (Row A)) (batch next : List (Bor (Row A))) → 0 < length batch → IsBatch most rows (rows_behind rows (lent batch)) next → length (to_come rows next) < length (to_come rows batch)
  fewer most rows batch next some behind =
      let all : length (to_come rows batch) ≡ length (lent batch) + length (rows_behind rows (lent batch)) = length-append (lent batch) (rows_behind rows (lent batch)) in
      let own : length (lent batch) ≡ length batch = length-map batch (λ row. row.now) in
      let left : length (to_come rows next) ≡ length (rows_behind rows (lent batch)) = ap length behind.1 in
      omega (arith, all, own, left, some)

  -- where a batch has no rows, none follow it
  pub none_left : (rows : List (Row A)) (batch : List (Bor (Row A))) → batch ≡ [] → to_come rows batch ≡ []
  none_left rows batch is = rw is refl

  -- ---- the first key of some rows

  pub first_key-none : (rows : List (Bor (Row A))) → None ≡ slice_get rows 0 → first_key (lent rows) ≡ []
  first_key-none [] is = refl
  first_key-none (row ∷ rows) is = absurd cc

  pub first_key-some : (rows : List (Bor (Row A))) (first : Bor (Row A)) → Some first ≡ slice_get rows 0 → first_key (lent rows) ≡ first.now.0 ∷ []
  first_key-some [] first is = absurd cc
  first_key-some (row ∷ rows) first is = let same : first ≡ row = cc in ap (λ (r : Bor (Row A)). r.now.0 ∷ []) (sym same)

  -- the rows after the last of a batch are those after the batch
  pub behind_batch : (rows : List (Row A)) (batch : List (Bor (Row A))) (last : Bor (Row A)) → Some last ≡ slice_get batch (length batch - 1) → rows_behind rows (lent batch) ≡ rows_after rows last.now.0
  behind_batch rows batch last is = behind_last rows (lent batch) last.now (rw (length-map batch (λ row. row.now), slice_get-map (λ row. row.now) batch (length batch - 1), sym is) refl)

  pub some_last : (batch : List (Bor (Row A))) (last : Bor (Row A)) → Some last ≡ slice_get batch (length batch - 1) → 0 < length batch
  some_last [] last is = absurd cc
  some_last (row ∷ batch) last is = omega arith

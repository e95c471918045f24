-- A batch of rows, some of which are passed, and the rows behind it.
use Rattle.std.proofs.Common.{◌≡◌, refl, sym, ap, subst, ◌∙◌, ℕ, zero, suc, ◌+◌, ◌<◌, ◌≤◌, true, false, true≢false, cond, List, [], ◌∷◌, ◌++◌, Option, Some, None, drop, length, arith}
use Rattle.std.proofs.lemmas.List.{drop_all}
use Rattle.std.specs.List.{slice_get}
use Rattle.std.specs.Option.{option_map_or}
use Rattle.value.specs.declared.key.Key.{Key}
use Rattle.schema.specs.Plain.{same}
use Rattle.schema.specs.declared.row.Row.{Row}
use Rattle.schema.specs.Rows.{Rows}
use Rattle.schema.specs.Walking.{rows_behind, rows_to_come}
use Rattle.schema.proofs.WalkLemmas.{given_here, none_read}
use Rattle.snapshot.specs.Merging.{HasFirst, past_key}

past : {X : Type 0} (xs : List X) (n : ℕ) → length xs ≤ n → slice_get xs n ≡ None
past [] zero all = refl
past [] (suc n) all = refl
past (x ∷ xs) zero all = absurd (omega arith)
past (x ∷ xs) (suc n) all = past xs n (omega arith)

there : {X : Type 0} (xs : List X) (n : ℕ) → n < length xs → slice_get xs n ≡ None → ⊥
there [] n lt none = omega arith
there (x ∷ xs) zero lt none = cc
there (x ∷ xs) (suc n) lt none = there xs n (omega arith) none

module _ {A : Type 0} where
  -- the first row to come is the one at the place
  pub first_ahead : (rows batch now : Rows A) (place : ℕ) → rows_to_come rows batch place ≡ now → HasFirst rows batch place → slice_get batch place ≡ slice_get now 0
  first_ahead rows batch now place is has = go (slice_get batch place) refl
    where
      go : (o : Option (Row A)) → slice_get batch place ≡ o → o ≡ slice_get now 0
      go None e = sym (ap (λ (zs : Rows A). slice_get zs 0) (sym is ∙ has e))
      go (Some row) e = sym (ap (λ (zs : Rows A). slice_get zs 0) (given_here rows batch now place row is (sym e)))

  -- a batch that was read just now
  pub read_now : (rows batch : Rows A) → HasFirst rows batch 0
  read_now rows batch none = (none_read rows batch (rows_to_come rows batch 0) refl (sym none)).1

  -- behind all of a batch none is to come
  pub nothing_left : (rows batch now : Rows A) (place : ℕ) → rows_to_come rows batch place ≡ now → HasFirst rows batch place → length batch ≤ place → now ≡ drop 1 now
  nothing_left rows batch now place is has all =
      let none : now ≡ [] = sym is ∙ has (past batch place all) in
      subst (λ (zs : Rows A). zs ≡ drop 1 zs) (sym none) refl

  -- past the row at the place
  pub one_passed : (rows batch now : Rows A) (place : ℕ) → rows_to_come rows batch place ≡ now → place < length batch → rows_to_come rows batch (place + 1) ≡ drop 1 now
  one_passed rows batch now place is lt = go (slice_get batch place) refl
    where
      go : (o : Option (Row A)) → slice_get batch place ≡ o → rows_to_come rows batch (place + 1) ≡ drop 1 now
      go None e = absurd (there batch place lt e)
      go (Some row) e = sym (ap (drop 1) (given_here rows batch now place row is (sym e)))

  pub still_first : (rows batch : Rows A) (place : ℕ) → place < length batch → HasFirst rows batch place
  still_first rows batch place lt none = absurd (there batch place lt none)

  -- past the last row of a batch
  pub batch_passed : (rows batch now more : Rows A) (place : ℕ) → rows_to_come rows batch place ≡ now → place < length batch → length batch ≤ place + 1 → rows_to_come rows more 0 ≡ rows_behind rows batch → rows_to_come rows more 0 ≡ drop 1 now
  batch_passed rows batch now more place is lt all read = read ∙ sym (ap (λ (zs : Rows A). zs ++ rows_behind rows batch) (drop_all (place + 1) batch all)) ∙ one_passed rows batch now place is lt

  -- past the first row, where it is of a key
  pub past_first : (key : Key A) (rows : Rows A) → option_map_or (λ r. same key r.0) (slice_get rows 0) false ≡ true → drop 1 rows ≡ past_key key rows
  past_first key [] is = absurd (true≢false (sym is))
  past_first key (row ∷ rows) is = sym (ap (λ b. cond b rows (row ∷ rows)) is)

  pub past_other : (key : Key A) (rows : Rows A) → option_map_or (λ r. same key r.0) (slice_get rows 0) false ≡ false → rows ≡ past_key key rows
  past_other key [] isnt = refl
  past_other key (row ∷ rows) isnt = sym (ap (λ b. cond b rows (row ∷ rows)) isnt)

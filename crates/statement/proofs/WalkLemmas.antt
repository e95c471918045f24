-- Reading a table from one end of an interval to the other gives the rows that satisfy the conditions.
use Rattle.std.proofs.Common.{arith, ◌≡◌, Bool, true, false, true≢false, cond, List, [], ◌∷◌, ◌++◌, map, Option, Some, None, Bor, refl, sym, ap, subst, ◌∙◌, append_assoc, ℕ, zero, suc, ◌+◌, ◌-◌, ◌<◌, ◌&&◌, ◌⊎◌, inl, inr, not, length, take, drop, get_or, slice_get}
use Rattle.std.specs.List.{AllByRecursion, filter, find, list_all}
use Rattle.std.specs.List.Sorted.{IsStrictlySortedBy}
use Rattle.std.proofs.lemmas.List.Kept.{IsStrictlySortedBy-filter}
use Rattle.std.proofs.lemmas.List.{take-append-drop, map-append, append-nil, take_more, length-map}
use Rattle.std.proofs.lemmas.Bool.{eqb-true, and_parts, and_from}
use Rattle.std.proofs.lemmas.Option.{slice_get-map}
use Rattle.std.specs.Prelude.{◌==◌}
use Rattle.std.proofs.lemmas.List.Elements.{filter-append}
use Rattle.std.specs.Option.{option_copied, IfSome}
use Rattle.std.specs.FinMap.{is_sorted}
use Rattle.std.specs.FinMap.Entries.{below_all}
use Rattle.std.specs.declared.cmp.Ordering.{Ordering}
use Rattle.std.specs.declared.cmp.Ordering.TheVariants.{Less, Equal, Greater}
use Rattle.std.specs.Ordering.{is_eq, is_lt, is_le, is_gt, is_ge, ordering_reverse}
use Rattle.value.specs.declared.value.Value.{Value}
use Rattle.value.specs.declared.value.Value.TheVariants.{Null, Int, Text, Bytes}
use Rattle.value.specs.Order.{value_cmp, value_cmp-total}
use Rattle.value.proofs.Basics.{all-weaker}
use Rattle.schema.specs.declared.row.Row.{Row}
use Rattle.schema.specs.Plain.{is_null}
use Rattle.schema.specs.Rows.{IsInKeyOrder, row_of}
use Rattle.schema.specs.Walking.{lent, rows_behind, rows_to_come}
use Rattle.schema.proofs.PlainLemmas.{same_value}
use Rattle.statement.specs.declared.condition.Condition.{Condition}
use Rattle.statement.specs.declared.reading.End.{End}
use Rattle.statement.specs.declared.reading.End.TheVariants.{Open, Closed, Without}
use Rattle.statement.specs.declared.condition.Condition.TheVariants.{Compare, Between, IsNull, IsNotNull}
use Rattle.statement.specs.declared.condition.Comparison.{Comparison}
use Rattle.statement.specs.declared.condition.Comparison.TheVariants as is
use Rattle.statement.specs.Conditions.{compares, is_so, holds, satisfies}
use Rattle.statement.specs.Cover.{is_from, is_to}
use Rattle.statement.specs.Select.{HasColumns}
use Rattle.statement.specs.Footprint.{Interval, Nothing, Span, intersection}
use Rattle.statement.specs.Walk.{IsWithin, IsAt, IsReadable, NoneBehind, is_bound, bounds_key, listed}
use Rattle.statement.proofs.RowsLemmas.{in_interval, intersection_in}

-- what would make a false test hold doesn't hold
never : (b c : Bool) → c ≡ false → (b ≡ true → c ≡ true) → b ≡ false
never true c e f = absurd (true≢false (sym (f refl) ∙ e))
never false c e f = refl

ge_less : (o : Ordering) → is_ge o ≡ false → o ≡ Less
ge_less Less e = refl
ge_less Equal e = absurd (true≢false e)
ge_less Greater e = absurd (true≢false e)

-- what holds of all holds of the one that is found
pub found_all : {T : Type 0} (P : T → Type 0) (q : T → Bool) (xs : List T) (x : T) → AllByRecursion P xs → find q xs ≡ Some x → P x
found_all P q [] x all e = cc
found_all P q (y ∷ ys) x all e = by_test (q y) e (found_all P q ys x all.1)
  where
    by_test : (b : Bool) → cond b (Some y) (find q ys) ≡ Some x → (find q ys ≡ Some x → P x) → P x
    by_test true is rest = let same : y ≡ x = cc in subst P same all.0
    by_test false is rest = rest is

module _ {A : Type 0} where
  -- what comes after a key above the upper end is above it too
  to_after : (high : End A) (k l : Value A) → is_to high k ≡ false → value_cmp k l ≡ Less → is_to high l ≡ false
  to_after Open k l above less = above
  to_after (Closed v) k l above less = ap is_ge (value_cmp-total.trans v k l (ge_less (value_cmp v k) above) less)
  to_after (Without v) k l above less = by_order (value_cmp v k) refl above
    where
      by_order : (o : Ordering) → value_cmp v k ≡ o → is_gt o ≡ false → is_gt (value_cmp v l) ≡ false
      by_order Less is e = ap is_gt (value_cmp-total.trans v k l is less)
      by_order Equal is e = ap is_gt (value_cmp-total.congr v k l is ∙ less)
      by_order Greater is e = absurd (true≢false e)

  none_later : (cs : List (Condition A)) (low high : End A) (k : Value A) (rows : List (Row A)) → AllByRecursion (λ l. value_cmp k l ≡ Less) (map (λ row. row.0) rows) → AllByRecursion (λ row. IsWithin cs low high row) rows → is_to high k ≡ false → filter (satisfies cs) rows ≡ []
  none_later cs low high k [] later all above = refl
  none_later cs low high k (r ∷ rows) later all above =
      ap (λ b. cond b (r ∷ filter (satisfies cs) rows) (filter (satisfies cs) rows)) (never (satisfies cs r) (is_to high r.0) (to_after high k r.0 above later.0) all.0.below) ∙ none_later cs low high k rows later.1 all.1 above

  -- a row above the upper end doesn't satisfy the conditions, nor do those behind it
  pub none_in_order : (cs : List (Condition A)) (low high : End A) (row : Row A) (rows : List (Row A)) → IsInKeyOrder (row ∷ rows) → AllByRecursion (λ r. IsWithin cs low high r) (row ∷ rows) → is_to high row.0 ≡ false → filter (satisfies cs) (row ∷ rows) ≡ []
  unfolding IsStrictlySortedBy
  none_in_order cs low high row rows sorted all above =
      ap (λ b. cond b (row ∷ filter (satisfies cs) rows) (filter (satisfies cs) rows)) (never (satisfies cs row) (is_to high row.0) above all.0.below) ∙ none_later cs low high row.0 rows sorted.0 all.1 above

  -- nor is any behind it
  pub none_behind : (cs : List (Condition A)) (low high : End A) (row : Row A) (rows : List (Row A)) → IsInKeyOrder (row ∷ rows) → AllByRecursion (λ r. IsWithin cs low high r) (row ∷ rows) → is_to high row.0 ≡ false → filter (satisfies cs) rows ≡ []
  unfolding IsStrictlySortedBy
  none_behind cs low high row rows sorted all above = none_later cs low high row.0 rows sorted.0 all.1 above

  -- the keys behind a row rise as well
  pub rest_rises : (row : Row A) (rows : List (Row A)) → IsInKeyOrder (row ∷ rows) → IsInKeyOrder rows
  unfolding IsStrictlySortedBy
  rest_rises row rows sorted = sorted.1

  -- ---- rows read by batches

  -- what is between two ends is up to the upper one
  pub up_to : (cs : List (Condition A)) (low high : End A) (rows : List (Row A)) → AllByRecursion (λ r. IsWithin cs low high r) rows → AllByRecursion (λ r. IsWithin cs Open high r) rows
  up_to cs low high [] all = tt
  up_to cs low high (row ∷ rows) all = (record { columns = all.0.columns; above = λ _. refl; below = all.0.below }, up_to cs low high rows all.1)

  -- the keys rise without some of the rows
  skipped : (row : Row A) (rest more : List (Row A)) → IsInKeyOrder (row ∷ (rest ++ more)) → IsInKeyOrder (row ∷ more)
  unfolding IsStrictlySortedBy
  skipped row [] more sorted = sorted
  skipped row (r ∷ rest) more sorted = skipped row rest more (sorted.0.1, sorted.1.1)

  pub first_rise : (rows more : List (Row A)) → IsInKeyOrder (rows ++ more) → IsInKeyOrder rows
  unfolding IsStrictlySortedBy
  first_rise [] more sorted = tt
  first_rise (row ∷ rows) more sorted = (first_least row rows more sorted.0, first_rise rows more sorted.1)
    where
      first_least : (row : Row A) (rows more : List (Row A)) → AllByRecursion (λ k. value_cmp row.0 k ≡ Less) (map (λ r. r.0) (rows ++ more)) → AllByRecursion (λ k. value_cmp row.0 k ≡ Less) (map (λ r. r.0) rows)
      first_least row [] more least = tt
      first_least row (r ∷ rows) more least = (least.0, first_least row rows more least.1)

  pub rest_rise : (rows more : List (Row A)) → IsInKeyOrder (rows ++ more) → IsInKeyOrder more
  rest_rise [] more sorted = sorted
  rest_rise (row ∷ rows) more sorted = rest_rise rows more (rest_rises row (rows ++ more) sorted)

  -- none behind a row that is above the upper end satisfies the conditions
  pub behind_above : (cs : List (Condition A)) (high : End A) (done : List (Row A)) (row : Row A) (rest more : List (Row A)) → IsInKeyOrder ((done ++ row ∷ rest) ++ more) → IsWithin cs Open high row → AllByRecursion (λ r. IsWithin cs Open high r) more
      → is_to high row.0 ≡ false → filter (satisfies cs) more ≡ []
  behind_above cs high [] row rest more sorted is all above = none_behind cs Open high row more (skipped row rest more sorted) (is, all) above
  behind_above cs high (d ∷ done) row rest more sorted is all above = behind_above cs high done row rest more (rest_rises d _ sorted) is all above

  -- a batch, of which one row is at hand
  pub batch_parts : (batch : List (Bor (Row A))) (i : ℕ) (x : Bor (Row A)) → i < length batch → x ≡ get_or batch i x → lent batch ≡ (lent (take i batch) ++ x.now ∷ []) ++ lent (drop (i + 1) batch)
  batch_parts batch i x lt is =
      ap lent (sym (take-append-drop (i + 1) batch))
      ∙ map-append (λ (r : Bor (Row A)). r.now) (take (i + 1) batch) (drop (i + 1) batch)
      ∙ ap (λ (d : List (Bor (Row A))). lent d ++ lent (drop (i + 1) batch)) (take_more batch i x lt ∙ ap (λ y. take i batch ++ y ∷ []) (sym is))
      ∙ ap (λ (d : List (Row A)). d ++ lent (drop (i + 1) batch)) (map-append (λ (r : Bor (Row A)). r.now) (take i batch) (x ∷ []))

  -- one row more of a batch
  pub batch_more : (cs : List (Condition A)) (batch : List (Bor (Row A))) (i : ℕ) (x : Bor (Row A)) (old now next : List (Row A)) → i < length batch → x ≡ get_or batch i x
      → next ≡ now ++ filter (satisfies cs) (x.now ∷ []) → now ≡ old ++ filter (satisfies cs) (lent (take i batch)) → next ≡ old ++ filter (satisfies cs) (lent (take (i + 1) batch))
  batch_more cs batch i x old now next lt is put so_far =
      put
      ∙ ap (λ rows. rows ++ filter (satisfies cs) (x.now ∷ [])) so_far
      ∙ append_assoc old (filter (satisfies cs) (lent (take i batch))) (filter (satisfies cs) (x.now ∷ []))
      ∙ ap (λ rows. old ++ rows) (sym (filter-append (satisfies cs) (lent (take i batch)) (x.now ∷ [])))
      ∙ ap (λ rows. old ++ filter (satisfies cs) rows) (sym (map-append (λ (r : Bor (Row A)). r.now) (take i batch) (x ∷ [])))
      ∙ ap (λ (d : List (Bor (Row A))). old ++ filter (satisfies cs) (lent d)) (sym (take_more batch i x lt ∙ ap (λ y. take i batch ++ y ∷ []) (sym is)))

  -- a row of a batch is within the ends
  pub batch_within : (cs : List (Condition A)) (high : End A) (batch : List (Bor (Row A))) (i : ℕ) (x : Bor (Row A)) → i < length batch → x ≡ get_or batch i x → AllByRecursion (λ r. IsWithin cs Open high r) (lent batch) → IsWithin cs Open high x.now
  batch_within cs high batch i x lt is all = middle_of (lent (take i batch)) x.now [] (lent (drop (i + 1) batch)) (subst (AllByRecursion (λ r. IsWithin cs Open high r)) (batch_parts batch i x lt is) all)
    where
      middle_of : (done : List (Row A)) (row : Row A) (rest more : List (Row A)) → AllByRecursion (λ r. IsWithin cs Open high r) ((done ++ row ∷ rest) ++ more) → IsWithin cs Open high row
      middle_of [] row rest more every = every.0
      middle_of (d ∷ done) row rest more every = middle_of done row rest more every.1

  pub behind_within : (cs : List (Condition A)) (low high : End A) (rows more : List (Row A)) → AllByRecursion (λ r. IsWithin cs low high r) (rows ++ more) → AllByRecursion (λ r. IsWithin cs low high r) more
  behind_within cs low high [] more all = all
  behind_within cs low high (row ∷ rows) more all = behind_within cs low high rows more all.1

  pub first_within : (cs : List (Condition A)) (low high : End A) (rows more : List (Row A)) → AllByRecursion (λ r. IsWithin cs low high r) (rows ++ more) → AllByRecursion (λ r. IsWithin cs low high r) rows
  first_within cs low high [] more all = tt
  first_within cs low high (row ∷ rows) more all = (all.0, first_within cs low high rows more all.1)

  -- a row of it that is above the upper end: none behind the batch satisfies the conditions
  pub batch_none : (cs : List (Condition A)) (high : End A) (batch : List (Bor (Row A))) (i : ℕ) (x : Bor (Row A)) → i < length batch → x ≡ get_or batch i x → AllByRecursion (λ r. IsWithin cs Open high r) (lent batch)
      → is_to high x.now.0 ≡ false → NoneBehind cs high (lent batch)
  batch_none cs high batch i x lt is all above more sorted behind =
      behind_above cs high (lent (take i batch)) x.now (lent (drop (i + 1) batch)) more
      (subst (λ rows. IsInKeyOrder (rows ++ more)) (batch_parts batch i x lt is ∙ append_assoc (lent (take i batch)) (x.now ∷ []) (lent (drop (i + 1) batch))) sorted)
      (batch_within cs high batch i x lt is all) behind above

  -- and none of the rest of the batch
  pub batch_above : (cs : List (Condition A)) (high : End A) (batch : List (Bor (Row A))) (i : ℕ) (x : Bor (Row A)) (old now next : List (Row A)) → i < length batch → x ≡ get_or batch i x
      → next ≡ now ++ filter (satisfies cs) (x.now ∷ []) → now ≡ old ++ filter (satisfies cs) (lent (take i batch)) → AllByRecursion (λ r. IsWithin cs Open high r) (lent batch) → IsInKeyOrder (lent batch)
      → is_to high x.now.0 ≡ false → next ≡ old ++ filter (satisfies cs) (lent batch)
  batch_above cs high batch i x old now next lt is put so_far all sorted above =
      let front = lent (take (i + 1) batch) in
      let rest = lent (drop (i + 1) batch) in
      let whole : lent batch ≡ front ++ rest = ap lent (sym (take-append-drop (i + 1) batch)) ∙ map-append (λ (r : Bor (Row A)). r.now) (take (i + 1) batch) (drop (i + 1) batch) in
      let none : filter (satisfies cs) rest ≡ [] =
      behind_above cs high (lent (take i batch)) x.now [] rest (subst IsInKeyOrder (batch_parts batch i x lt is) sorted) (batch_within cs high batch i x lt is all)
      (behind_within cs Open high front rest (subst (AllByRecursion (λ r. IsWithin cs Open high r)) whole all)) above in
      batch_more cs batch i x old now next lt is put so_far
      ∙ ap (λ rows. old ++ rows) (sym (append-nil (filter (satisfies cs) front)) ∙ ap (λ rows. filter (satisfies cs) front ++ rows) (sym none) ∙ sym (filter-append (satisfies cs) front rest) ∙ ap (filter (satisfies cs)) (sym whole))

  -- a batch whose rows are added, and those to come behind it
  pub next_batch : (cs : List (Condition A)) (rows batch come now next : List (Row A)) (whole : List (Row A)) → next ≡ now ++ filter (satisfies cs) batch → come ≡ rows_behind rows batch
      → now ++ filter (satisfies cs) (rows_to_come rows batch 0) ≡ whole → next ++ filter (satisfies cs) come ≡ whole
  next_batch cs rows batch come now next whole put is so_far =
      ap (λ ds. ds ++ filter (satisfies cs) come) put
      ∙ append_assoc now (filter (satisfies cs) batch) (filter (satisfies cs) come)
      ∙ ap (λ ds. now ++ ds) (ap (λ cs'. filter (satisfies cs) batch ++ filter (satisfies cs) cs') is ∙ sym (filter-append (satisfies cs) batch (rows_behind rows batch)))
      ∙ so_far

  keys_from : (low : End A) (rows : List (Row A)) → map (λ row. row.0) (filter (λ row. is_from low row.0) rows) ≡ filter (is_from low) (map (λ row. row.0) rows)
  keys_from low [] = refl
  keys_from low (row ∷ rows) = by_test (is_from low row.0) (keys_from low rows)
    where
      by_test : (b : Bool) → map (λ row. row.0) (filter (λ row. is_from low row.0) rows) ≡ filter (is_from low) (map (λ row. row.0) rows)
          → map (λ row. row.0) (cond b (row ∷ filter (λ row. is_from low row.0) rows) (filter (λ row. is_from low row.0) rows)) ≡ cond b (row.0 ∷ filter (is_from low) (map (λ row. row.0) rows)) (filter (is_from low) (map (λ row. row.0) rows))
      by_test true e = ap (λ keys. row.0 ∷ keys) e
      by_test false e = e

  -- the rows that aren't below a lower end are in key order
  pub from_low_rise : (low : End A) (rows : List (Row A)) → IsInKeyOrder rows → IsInKeyOrder (filter (λ row. is_from low row.0) rows)
  from_low_rise low rows sorted = subst (IsStrictlySortedBy value_cmp) (sym (keys_from low rows)) (IsStrictlySortedBy-filter value_cmp (is_from low) (map (λ row. row.0) rows) sorted)

  -- what satisfies the conditions isn't below the lower end
  pub from_low : (cs : List (Condition A)) (low high : End A) (rows : List (Row A)) → AllByRecursion (λ row. IsWithin cs low high row) rows → filter (satisfies cs) (filter (λ row. is_from low row.0) rows) ≡ filter (satisfies cs) rows
  from_low cs low high [] all = refl
  from_low cs low high (r ∷ rows) all = by_test (is_from low r.0) refl (from_low cs low high rows all.1)
    where
      by_test : (b : Bool) → is_from low r.0 ≡ b → filter (satisfies cs) (filter (λ row. is_from low row.0) rows) ≡ filter (satisfies cs) rows
          → filter (satisfies cs) (cond b (r ∷ filter (λ row. is_from low row.0) rows) (filter (λ row. is_from low row.0) rows)) ≡ cond (satisfies cs r) (r ∷ filter (satisfies cs) rows) (filter (satisfies cs) rows)
      by_test true is rest = ap (λ zs. cond (satisfies cs r) (r ∷ zs) zs) rest
      by_test false is rest = rest ∙ sym (ap (λ b. cond b (r ∷ filter (satisfies cs) rows) (filter (satisfies cs) rows)) (never (satisfies cs r) (is_from low r.0) is all.0.above))

  -- ---- a single key

  none_above : (cs : List (Condition A)) (k : Value A) (rows : List (Row A)) → AllByRecursion (λ row. IsAt cs k row) rows → below_all value_cmp k rows ≡ true → filter (satisfies cs) rows ≡ []
  none_above cs k [] all below = refl
  none_above cs k (r ∷ rows) all below =
      let p = and_parts (is_lt (value_cmp k r.0)) (below_all value_cmp k rows) below in
      ap (λ b. cond b (r ∷ filter (satisfies cs) rows) (filter (satisfies cs) rows)) (never (satisfies cs r) (is_eq (value_cmp k r.0)) (not_equal (value_cmp k r.0) p.0) (λ s. ap is_eq (all.0.at s))) ∙ none_above cs k rows all.1 p.1
    where
      not_equal : (o : Ordering) → is_lt o ≡ true → is_eq o ≡ false
      not_equal Less e = refl
      not_equal Equal e = absurd (true≢false (sym e))
      not_equal Greater e = refl

  pub at_key : (cs : List (Condition A)) (k : Value A) (rows : List (Row A)) → is_sorted value_cmp rows ≡ true → AllByRecursion (λ row. IsAt cs k row) rows → filter (satisfies cs) (listed (row_of rows k)) ≡ filter (satisfies cs) rows
  at_key cs k [] sorted all = refl
  at_key cs k (r ∷ rows) sorted all = by_test (is_eq (value_cmp k r.0)) refl (at_key cs k rows parts.1 all.1)
    where
      parts : (below_all value_cmp r.0 rows ≡ true) × (is_sorted value_cmp rows ≡ true)
      parts = and_parts (below_all value_cmp r.0 rows) (is_sorted value_cmp rows) sorted

      by_test : (b : Bool) → is_eq (value_cmp k r.0) ≡ b → filter (satisfies cs) (listed (row_of rows k)) ≡ filter (satisfies cs) rows
          → filter (satisfies cs) (listed (cond b (Some r) (row_of rows k))) ≡ cond (satisfies cs r) (r ∷ filter (satisfies cs) rows) (filter (satisfies cs) rows)
      by_test true is rest =
          let none : filter (satisfies cs) rows ≡ [] = none_above cs k rows all.1 (ap (λ v. below_all value_cmp v rows) (same_value k r.0 is) ∙ parts.0) in
          sym (ap (λ zs. cond (satisfies cs r) (r ∷ zs) zs) none)
      by_test false is rest = rest ∙ sym (ap (λ b. cond b (r ∷ filter (satisfies cs) rows) (filter (satisfies cs) rows)) (never (satisfies cs r) (is_eq (value_cmp k r.0)) is (λ s. ap is_eq (all.0.at s))))

  -- the row that is found by its key has the columns of the conditions
  pub found_columns : (cs : List (Condition A)) (k : Value A) (rows : List (Row A)) (found : Option (Bor (Row A))) → option_copied found ≡ row_of rows k → AllByRecursion (λ row. IsAt cs k row) rows → IfSome found (λ row. HasColumns cs row.now)
  found_columns cs k rows None is all = tt
  found_columns cs k rows (Some row) is all = (found_all (λ r. IsAt cs k r) (λ r. is_eq (value_cmp k r.0)) rows row.now all (sym is)).columns

  -- between two ends that are the same key is that key alone
  pub only_one : (k l v : Value A) → is_eq (value_cmp k l) ≡ true → is_from (Closed k) v ≡ true → is_to (Closed l) v ≡ true → value_cmp k v ≡ Equal
  only_one k l v same from to = by_order (value_cmp k v) from (ap is_ge (ap (λ x. value_cmp x v) (same_value k l same)) ∙ to)
    where
      by_order : (o : Ordering) → is_le o ≡ true → is_ge o ≡ true → o ≡ Equal
      by_order Less p q = absurd (true≢false (sym q))
      by_order Equal p q = refl
      by_order Greater p q = absurd (true≢false (sym p))

  -- ---- the interval of the conditions

  open_within : (cs : List (Condition A)) (row : Row A) → IsReadable cs row → IsWithin cs Open Open row
  open_within cs row r = record { columns = r.columns; above = λ s. refl; below = λ s. refl }

  pub all_open : (cs : List (Condition A)) (rows : List (Row A)) → AllByRecursion (λ row. IsReadable cs row) rows → AllByRecursion (λ row. IsWithin cs Open Open row) rows
  all_open cs rows all = all-weaker (λ row. IsReadable cs row) (λ row. IsWithin cs Open Open row) (open_within cs) rows all

  inside : (cs : List (Condition A)) (i : Option (Interval A)) (row : Row A) → IsReadable cs row → intersection cs ≡ i → satisfies cs row ≡ true → in_interval row.0 i ≡ true
  inside cs i row r is s = ap (in_interval row.0) (sym is) ∙ intersection_in row cs r.key s

  pub all_within : (cs : List (Condition A)) (low high : End A) (rows : List (Row A)) → intersection cs ≡ Some (Span low high) → AllByRecursion (λ row. IsReadable cs row) rows → AllByRecursion (λ row. IsWithin cs low high row) rows
  all_within cs low high rows is all = all-weaker (λ row. IsReadable cs row) (λ row. IsWithin cs low high row) within rows all
    where
      within : (row : Row A) → IsReadable cs row → IsWithin cs low high row
      within row r = record {
        columns = r.columns;
        above = λ s. (and_parts (is_from low row.0) (is_to high row.0) (inside cs (Some (Span low high)) row r is s)).0;
        below = λ s. (and_parts (is_from low row.0) (is_to high row.0) (inside cs (Some (Span low high)) row r is s)).1;
      }

  pub nothing_within : (cs : List (Condition A)) (rows : List (Row A)) → intersection cs ≡ Some Nothing → AllByRecursion (λ row. IsReadable cs row) rows → filter (satisfies cs) rows ≡ []
  nothing_within cs [] is all = refl
  nothing_within cs (r ∷ rows) is all =
      ap (λ b. cond b (r ∷ filter (satisfies cs) rows) (filter (satisfies cs) rows)) (never (satisfies cs r) false refl (inside cs (Some Nothing) r all.0 is)) ∙ nothing_within cs rows is all.1

  -- rows between two ends that are one key have that key
  pub all_at : (cs : List (Condition A)) (low high : End A) (k : Value A) (rows : List (Row A)) → ((v : Value A) → is_from low v ≡ true → is_to high v ≡ true → value_cmp k v ≡ Equal)
      → AllByRecursion (λ row. IsWithin cs low high row) rows → AllByRecursion (λ row. IsAt cs k row) rows
  all_at cs low high k rows only all = all-weaker (λ row. IsWithin cs low high row) (λ row. IsAt cs k row) (λ row w. record { columns = w.columns; at = λ s. only row.0 (w.above s) (w.below s) }) rows all

-- one row more among those kept
pub keep_more : {T : Type 0} (p : T → Bool) (done : List T) (x : T) (rest : List T) → (done ++ filter p (x ∷ [])) ++ filter p rest ≡ done ++ filter p (x ∷ rest)
keep_more p done x rest = append_assoc done _ _ ∙ ap (λ ys. done ++ ys) (by_test (p x))
  where
    by_test : (b : Bool) → cond b (x ∷ []) [] ++ filter p rest ≡ cond b (x ∷ filter p rest) (filter p rest)
    by_test true = refl
    by_test false = refl

-- ---- a condition that rows between two others meet as these do

module _ {A : Type 0} where
  not_null_above : (x y : Value A) → value_cmp x y ≡ Less → is_null y ≡ false
  not_null_above x (Int n) less = refl
  not_null_above x (Text t) less = refl
  not_null_above x (Bytes b) less = refl
  not_null_above Null Null less = cc
  not_null_above (Int n) Null less = cc
  not_null_above (Text t) Null less = cc
  not_null_above (Bytes b) Null less = cc

  -- what is below one that isn't above a value is below it
  below_value : (y z v : Value A) → value_cmp y z ≡ Less → is_le (value_cmp z v) ≡ true → value_cmp y v ≡ Less
  below_value y z v less not_above = by_order (value_cmp z v) refl not_above
    where
      by_order : (o : Ordering) → value_cmp z v ≡ o → is_le o ≡ true → value_cmp y v ≡ Less
      by_order Less is e = value_cmp-total.trans y z v less is
      by_order Equal is e = value_cmp-total.antisymm y v ∙ ap ordering_reverse (sym (value_cmp-total.congr z v y is)) ∙ sym (value_cmp-total.antisymm y z) ∙ less
      by_order Greater is e = absurd (true≢false (sym e))

  -- what is above one that isn't below a value is above it
  above_value : (x y v : Value A) → value_cmp x y ≡ Less → is_ge (value_cmp x v) ≡ true → value_cmp y v ≡ Greater
  above_value x y v less not_below = by_order (value_cmp x v) refl not_below
    where
      by_order : (o : Ordering) → value_cmp x v ≡ o → is_ge o ≡ true → value_cmp y v ≡ Greater
      by_order Less is e = absurd (true≢false (sym e))
      by_order Equal is e = value_cmp-total.antisymm y v ∙ ap ordering_reverse (sym (value_cmp-total.congr x v y is) ∙ less)
      by_order Greater is e = value_cmp-total.antisymm y v ∙ ap ordering_reverse (value_cmp-total.trans v x y (value_cmp-total.antisymm v x ∙ ap ordering_reverse is) less)

  so_between : (how : Comparison) (x y z v : Value A) → is_bound how ≡ true → value_cmp x y ≡ Less → value_cmp y z ≡ Less → is_so x how v ≡ true → is_so z how v ≡ true → is_so y how v ≡ true
  so_between how x y z v bound first second e f =
      let p = and_parts (not (is_null x) && not (is_null v)) (compares how (value_cmp x v)) e in
      let q = and_parts (not (is_null z) && not (is_null v)) (compares how (value_cmp z v)) f in
      and_from (not (is_null y) && not (is_null v)) (compares how (value_cmp y v))
      (and_from (not (is_null y)) (not (is_null v)) (ap not (not_null_above x y first)) (and_parts (not (is_null x)) (not (is_null v)) p.0).1)
      (go how bound p.1 q.1)
    where
      lt_le : (o : Ordering) → is_lt o ≡ true → is_le o ≡ true
      lt_le Less h = refl
      lt_le Equal h = refl
      lt_le Greater h = absurd (true≢false (sym h))

      gt_ge : (o : Ordering) → is_gt o ≡ true → is_ge o ≡ true
      gt_ge Less h = absurd (true≢false (sym h))
      gt_ge Equal h = refl
      gt_ge Greater h = refl

      go : (how : Comparison) → is_bound how ≡ true → compares how (value_cmp x v) ≡ true → compares how (value_cmp z v) ≡ true → compares how (value_cmp y v) ≡ true
      go is.Equal b s t = absurd (true≢false (sym b))
      go is.NotEqual b s t = absurd (true≢false (sym b))
      go is.Less b s t = ap is_lt (below_value y z v second (lt_le (value_cmp z v) t))
      go is.LessOrEqual b s t = ap is_le (below_value y z v second t)
      go is.Greater b s t = ap is_gt (above_value x y v first (gt_ge (value_cmp x v) s))
      go is.GreaterOrEqual b s t = ap is_ge (above_value x y v first s)

  holds_between : (c : Condition A) (x y z : Row A) → bounds_key c ≡ true → value_cmp x.0 y.0 ≡ Less → value_cmp y.0 z.0 ≡ Less → holds x c ≡ true → holds z c ≡ true → holds y c ≡ true
  holds_between (Compare zero how v) x y z b first second e f = so_between how x.0 y.0 z.0 v b first second e f
  holds_between (Compare (suc n) how v) x y z b first second e f = absurd (let p = eqb-true (suc n) 0 (and_parts (suc n == 0) (is_bound how) b).0 in omega arith)
  holds_between (Between zero low high) x y z b first second e f =
      let p = and_parts (is_so x.0 is.GreaterOrEqual low) (is_so x.0 is.LessOrEqual high) e in
      let q = and_parts (is_so z.0 is.GreaterOrEqual low) (is_so z.0 is.LessOrEqual high) f in
      and_from (is_so y.0 is.GreaterOrEqual low) (is_so y.0 is.LessOrEqual high) (so_between is.GreaterOrEqual x.0 y.0 z.0 low refl first second p.0 q.0) (so_between is.LessOrEqual x.0 y.0 z.0 high refl first second p.1 q.1)
  holds_between (Between (suc n) low high) x y z b first second e f = absurd (let p = eqb-true (suc n) 0 b in omega arith)
  holds_between (IsNull n) x y z b first second e f = absurd (true≢false (sym b))
  holds_between (IsNotNull n) x y z b first second e f = absurd (true≢false (sym b))

  satisfies_between : (cs : List (Condition A)) (x y z : Row A) → list_all bounds_key cs ≡ true → value_cmp x.0 y.0 ≡ Less → value_cmp y.0 z.0 ≡ Less → satisfies cs x ≡ true → satisfies cs z ≡ true → satisfies cs y ≡ true
  satisfies_between [] x y z b first second e f = refl
  satisfies_between (c ∷ cs) x y z b first second e f =
      let bs = and_parts (bounds_key c) (list_all bounds_key cs) b in
      let p = and_parts (holds x c) (satisfies cs x) e in
      let q = and_parts (holds z c) (satisfies cs z) f in
      and_from (holds y c) (satisfies cs y) (holds_between c x y z bs.0 first second p.0 q.0) (satisfies_between cs x y z bs.1 first second p.1 q.1)

  -- rows of which the first and the last satisfy the conditions: all do
  all_between : (cs : List (Condition A)) (x : Row A) (middle : List (Row A)) (last : Row A) → list_all bounds_key cs ≡ true → satisfies cs x ≡ true → satisfies cs last ≡ true → AllByRecursion (λ k. value_cmp x.0 k ≡ Less) (map (λ r. r.0) (middle ++ last ∷ []))
      → IsInKeyOrder (middle ++ last ∷ []) → filter (satisfies cs) (middle ++ last ∷ []) ≡ middle ++ last ∷ []
  unfolding IsStrictlySortedBy
  all_between cs x [] last b e f later sorted = ap (λ t. cond t (last ∷ []) []) f
  all_between cs x (y ∷ middle) last b e f later sorted =
      ap (λ t. cond t (y ∷ filter (satisfies cs) (middle ++ last ∷ [])) (filter (satisfies cs) (middle ++ last ∷ []))) (satisfies_between cs x y last b later.0 (below_last y middle sorted.0) e f)
      ∙ ap (λ rows. y ∷ rows) (all_between cs x middle last b e f later.1 sorted.1)
    where
      below_last : (y : Row A) (middle : List (Row A)) → AllByRecursion (λ k. value_cmp y.0 k ≡ Less) (map (λ r. r.0) (middle ++ last ∷ [])) → value_cmp y.0 last.0 ≡ Less
      below_last y [] least = least.0
      below_last y (r ∷ middle) least = below_last y middle least.1

  last_parts : (x : Row A) (rows : List (Row A)) (last : Row A) → Some last ≡ slice_get (x ∷ rows) (length rows) → ((rows ≡ []) × (x ≡ last)) ⊎ ((middle : List (Row A)) × (rows ≡ middle ++ last ∷ []))
  last_parts x [] last is = inl (refl, cc)
  last_parts x (y ∷ rows) last is = go (last_parts y rows last is)
    where
      go : ((rows ≡ []) × (y ≡ last)) ⊎ ((middle : List (Row A)) × (rows ≡ middle ++ last ∷ [])) → ((y ∷ rows ≡ []) × (x ≡ last)) ⊎ ((middle : List (Row A)) × (y ∷ rows ≡ middle ++ last ∷ []))
      go (inl (none, same)) = inr ([], ap (λ rs. y ∷ rs) none ∙ ap (λ r. r ∷ []) same)
      go (inr (middle, is)) = inr (y ∷ middle, ap (λ rs. y ∷ rs) is)

  pub all_meet : (cs : List (Condition A)) (rows : List (Row A)) (first last : Row A) → list_all bounds_key cs ≡ true → IsInKeyOrder rows → Some first ≡ slice_get rows 0 → Some last ≡ slice_get rows (length rows - 1) → satisfies cs first ≡ true → satisfies cs last ≡ true → filter (satisfies cs) rows ≡ rows
  unfolding IsStrictlySortedBy
  all_meet cs [] first last b sorted is_first is_last e f = refl
  all_meet cs (x ∷ rows) first last b sorted is_first is_last e f =
      let same : first ≡ x = cc in
      let meets : satisfies cs x ≡ true = subst (λ r. satisfies cs r ≡ true) same e in
      ap (λ t. cond t (x ∷ filter (satisfies cs) rows) (filter (satisfies cs) rows)) meets ∙ ap (λ rs. x ∷ rs) (go meets (last_parts x rows last (is_last ∙ ap (slice_get (x ∷ rows)) last_place)))
    where
      last_place : length (x ∷ rows) - 1 ≡ length rows
      last_place = omega arith

      go : satisfies cs x ≡ true → ((rows ≡ []) × (x ≡ last)) ⊎ ((middle : List (Row A)) × (rows ≡ middle ++ last ∷ [])) → filter (satisfies cs) rows ≡ rows
      go meets (inl (none, same)) = ap (filter (satisfies cs)) none ∙ sym none
      go meets (inr (middle, is)) =
          ap (filter (satisfies cs)) is
          ∙ all_between cs x middle last b meets f (subst (λ rs. AllByRecursion (λ k. value_cmp x.0 k ≡ Less) (map (λ r. r.0) rs)) is sorted.0) (subst IsInKeyOrder is sorted.1)
          ∙ sym is

  -- of a batch
  got_at : (batch : List (Bor (Row A))) (x : Bor (Row A)) (i : ℕ) → Some x ≡ slice_get batch i → Some x.now ≡ slice_get (lent batch) i
  got_at batch x i is = rw (slice_get-map (λ (r : Bor (Row A)). r.now) batch i, sym is) refl

  pub batch_meets : (cs : List (Condition A)) (batch : List (Bor (Row A))) (first last : Bor (Row A)) → list_all bounds_key cs ≡ true → IsInKeyOrder (lent batch) → Some first ≡ slice_get batch 0 → Some last ≡ slice_get batch (length batch - 1)
      → satisfies cs first.now ≡ true → satisfies cs last.now ≡ true → filter (satisfies cs) (lent batch) ≡ lent batch
  batch_meets cs batch first last b sorted is_first is_last e f =
      all_meet cs (lent batch) first.now last.now b sorted (got_at batch first 0 is_first)
      (got_at batch last (length batch - 1) is_last ∙ ap (λ n. slice_get (lent batch) (n - 1)) (sym (length-map batch (λ (r : Bor (Row A)). r.now)))) e f

  pub columns_at : (cs : List (Condition A)) (batch : List (Bor (Row A))) (x : Bor (Row A)) (i : ℕ) → AllByRecursion (λ row. HasColumns cs row) (lent batch) → Some x ≡ slice_get batch i → HasColumns cs x.now
  columns_at cs [] x i all is = absurd cc
  columns_at cs (y ∷ ys) x zero all is = let same : x ≡ y = cc in subst (λ (r : Bor (Row A)). HasColumns cs r.now) (sym same) all.0
  columns_at cs (y ∷ ys) x (suc i) all is = columns_at cs ys x i all.1 is

  pub columns_within : (cs : List (Condition A)) (high : End A) (rows : List (Row A)) → AllByRecursion (λ r. IsWithin cs Open high r) rows → AllByRecursion (λ r. HasColumns cs r) rows
  columns_within cs high [] all = tt
  columns_within cs high (row ∷ rows) all = (all.0.columns, columns_within cs high rows all.1)

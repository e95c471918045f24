-- Rows written in key order.
use Rattle.std.proofs.Common.{◌≡◌, refl, sym, ap, subst, ◌∙◌, ℕ, zero, suc, ◌<◌, ◌≤◌, Bool, true, false, cond, List, [], ◌∷◌, ◌++◌, map, take, length, get_or, Option, Some, Bor, append_assoc, arith, inl, inr}
use Rattle.std.proofs.lemmas.Bool.{and_parts, and_from}
use Rattle.std.proofs.lemmas.List.{append-nil, take_all}
use Rattle.std.specs.FinMap.{is_sorted}
use Rattle.std.specs.FinMap.Entries.{below_all}
use Rattle.std.specs.List.{AllByRecursion, filter}
use Rattle.std.specs.List.Sorted.{IsStrictlySortedBy}
use Rattle.std.specs.Ordering.{is_lt}
use Rattle.std.specs.declared.cmp.Ordering.TheVariants.{Less}
use Rattle.value.specs.declared.value.Value.{Value}
use Rattle.value.specs.Order.{value_cmp}
use Rattle.value.proofs.Basics.{Less-from_lt}
use Rattle.value.proofs.IsolationLemmas.{In}
use Rattle.schema.specs.Definition.{Catalog}
use Rattle.schema.specs.declared.row.Row.{Row}
use Rattle.schema.specs.declared.changes.Change.{Change}
use Rattle.schema.specs.declared.tables.Tables.{Tables}
use Rattle.schema.specs.Changing.{AreOfTable}
use Rattle.schema.specs.Plain.{columns_of, row_at, rows_of}
use Rattle.schema.proofs.SoundLemmas.{found_row}
use Rattle.statement.specs.declared.condition.Condition.{Condition}
use Rattle.statement.specs.Conditions.{chosen, satisfies}
use Rattle.statement.specs.Marks.{marks_of, marks_of_change, references_of}
use Rattle.statement.specs.Walk.{are_of}
use Rattle.statement.specs.Writing.{AreRowsOf}
use Rattle.statement.proofs.HeldLemmas.{held_table}

module _ {A : Type 0} where
  -- ---- rows in key order, written one after another

  -- the change of a row of table t, whose fields after it g tells
  abbrev pub change_by : ℕ → (Row A → Option (List (Value A))) → Row A → Change A
  change_by t g row = record { table = t; key = row.0; fields = g row }

  -- with the row at i there is one change more
  pub changes_more : (t : ℕ) (g : Row A → Option (List (Value A))) (rows : List (Bor (Row A))) (i : ℕ) (row : Bor (Row A)) → i < length rows → row ≡ get_or rows i row
      → map (change_by t g) (map (λ r. r.now) (take (suc i) rows)) ≡ map (change_by t g) (map (λ r. r.now) (take i rows)) ++ change_by t g row.now ∷ []
  changes_more t g [] i row lt is = absurd (omega arith)
  changes_more t g (r ∷ rows) zero row lt is = ap (λ x. change_by t g x.now ∷ []) (sym is)
  changes_more t g (r ∷ rows) (suc i) row lt is = ap (λ xs. change_by t g r.now ∷ xs) (changes_more t g rows i row (omega arith) is)

  -- and the marks of that row, before and after
  pub marks_more : (c : Catalog) (X : Tables A) (t : ℕ) (g : Row A → Option (List (Value A))) (rows : List (Bor (Row A))) (i : ℕ) (row : Bor (Row A)) → AllByRecursion (λ r. row_at X t r.0 ≡ Some r.1) (map (λ r. r.now) rows) → i < length rows → row ≡ get_or rows i row
      → marks_of c X (map (change_by t g) (map (λ r. r.now) (take (suc i) rows)))
      ≡ marks_of c X (map (change_by t g) (map (λ r. r.now) (take i rows))) ++ references_of t (columns_of c t) row.now.0 (Some row.now.1) ++ references_of t (columns_of c t) row.now.0 (g row.now)
  marks_more c X t g [] i row all lt is = absurd (omega arith)
  marks_more c X t g (r ∷ rows) zero row all lt is =
      append-nil (marks_of_change c X (change_by t g r.now))
      ∙ ap (λ o. references_of t (columns_of c t) r.now.0 o ++ references_of t (columns_of c t) r.now.0 (g r.now)) all.0
      ∙ ap (λ x. references_of t (columns_of c t) x.now.0 (Some x.now.1) ++ references_of t (columns_of c t) x.now.0 (g x.now)) (sym is)
  marks_more c X t g (r ∷ rows) (suc i) row all lt is =
      let here = marks_of_change c X (change_by t g r.now) in
      let done = marks_of c X (map (change_by t g) (map (λ r. r.now) (take i rows))) in
      let before = references_of t (columns_of c t) row.now.0 (Some row.now.1) in
      let after = references_of t (columns_of c t) row.now.0 (g row.now) in
      ap (λ ms. here ++ ms) (marks_more c X t g rows i row all.1 (omega arith) is) ∙ sym (append_assoc here (done ++ before) after) ∙ ap (λ ms. ms ++ after) (sym (append_assoc here done before))

  -- ---- the chosen rows

  below_filter : (p : Row A → Bool) (k : Value A) (rows : List (Row A)) → below_all value_cmp k rows ≡ true → below_all value_cmp k (filter p rows) ≡ true
  below_filter p k [] h = refl
  below_filter p k (r ∷ rows) h = go (p r) (and_parts (is_lt (value_cmp k r.0)) (below_all value_cmp k rows) h) (below_filter p k rows)
    where
      go : (b : Bool) → (is_lt (value_cmp k r.0) ≡ true) × (below_all value_cmp k rows ≡ true) → (below_all value_cmp k rows ≡ true → below_all value_cmp k (filter p rows) ≡ true) → below_all value_cmp k (cond b (r ∷ filter p rows) (filter p rows)) ≡ true
      go true h rest = and_from (is_lt (value_cmp k r.0)) (below_all value_cmp k (filter p rows)) h.0 (rest h.1)
      go false h rest = rest h.1

  -- of rows in key order those that are kept are so too
  pub sorted_filter : (p : Row A → Bool) (rows : List (Row A)) → is_sorted value_cmp rows ≡ true → is_sorted value_cmp (filter p rows) ≡ true
  sorted_filter p [] h = refl
  sorted_filter p (r ∷ rows) h = go (p r) (and_parts (below_all value_cmp r.0 rows) (is_sorted value_cmp rows) h) (sorted_filter p rows)
    where
      go : (b : Bool) → (below_all value_cmp r.0 rows ≡ true) × (is_sorted value_cmp rows ≡ true) → (is_sorted value_cmp rows ≡ true → is_sorted value_cmp (filter p rows) ≡ true) → is_sorted value_cmp (cond b (r ∷ filter p rows) (filter p rows)) ≡ true
      go true h rest = and_from (below_all value_cmp r.0 (filter p rows)) (is_sorted value_cmp (filter p rows)) (below_filter p r.0 rows h.0) (rest h.1)
      go false h rest = rest h.1

  found_each : (p : Row A → Bool) (X : Tables A) (t : ℕ) (rows : List (Row A)) → ((r : Row A) → In r rows → row_at X t r.0 ≡ Some r.1) → AllByRecursion (λ row. row_at X t row.0 ≡ Some row.1) (filter p rows)
  found_each p X t [] f = tt
  found_each p X t (r ∷ rows) f = go (p r) (f r (inl refl)) (found_each p X t rows (λ s i. f s (inr i)))
    where
      go : (b : Bool) → row_at X t r.0 ≡ Some r.1 → AllByRecursion (λ row. row_at X t row.0 ≡ Some row.1) (filter p rows) → AllByRecursion (λ row. row_at X t row.0 ≡ Some row.1) (cond b (r ∷ filter p rows) (filter p rows))
      go true here rest = (here, rest)
      go false here rest = rest

  -- the rows that are chosen are rows of their table, in key order
  pub chosen_rows : (c : Catalog) (X : Tables A) (t : ℕ) (cs : List (Condition A)) → are_of c X ≡ true → AreRowsOf X t (chosen X t cs)
  chosen_rows c X t cs held = record {
    sorted = sorted_filter (satisfies cs) (rows_of X t) (held_table c X t held).0;
    each = found_each (satisfies cs) X t (rows_of X t) (λ r i. found_row (rows_of X t) r (held_table c X t held).0 i);
  }

  -- ---- changes by rising keys

  keys_above : (t : ℕ) (g : Row A → Option (List (Value A))) (k : Value A) (rows : List (Row A)) → below_all value_cmp k rows ≡ true → AllByRecursion (λ l. value_cmp k l ≡ Less) (map (λ x. x.key) (map (change_by t g) rows))
  keys_above t g k [] below = tt
  keys_above t g k (row ∷ rows) below = let p = and_parts (is_lt (value_cmp k row.0)) (below_all value_cmp k rows) below in (Less-from_lt (value_cmp k row.0) p.0, keys_above t g k rows p.1)

  keys_rise : (t : ℕ) (g : Row A → Option (List (Value A))) (rows : List (Row A)) → is_sorted value_cmp rows ≡ true → IsStrictlySortedBy value_cmp (map (λ x. x.key) (map (change_by t g) rows))
  unfolding IsStrictlySortedBy
  keys_rise t g [] sorted = tt
  keys_rise t g (row ∷ rows) sorted = let p = and_parts (below_all value_cmp row.0 rows) (is_sorted value_cmp rows) sorted in (keys_above t g row.0 rows p.0, keys_rise t g rows p.1)

  of_one_table : (t : ℕ) (g : Row A → Option (List (Value A))) (rows : List (Row A)) → AllByRecursion (λ x. x.table ≡ t) (map (change_by t g) rows)
  of_one_table t g [] = tt
  of_one_table t g (row ∷ rows) = (refl, of_one_table t g rows)

  -- rows in key order are written by rising keys
  pub writes_rise : (t : ℕ) (g : Row A → Option (List (Value A))) (rows : List (Row A)) (changes : List (Change A)) → is_sorted value_cmp rows ≡ true → changes ≡ map (change_by t g) rows → AreOfTable t changes
  writes_rise t g rows changes sorted is = subst (AreOfTable t) (sym is) (of_one_table t g rows, keys_rise t g rows sorted)

  -- so are all of them, where so many are written
  pub all_writes_rise : (t : ℕ) (g : Row A → Option (List (Value A))) (rows : List (Bor (Row A))) (i : ℕ) (changes : List (Change A)) → length rows ≤ i → is_sorted value_cmp (map (λ r. r.now) rows) ≡ true → changes ≡ map (change_by t g) (map (λ r. r.now) (take i rows))
      → AreOfTable t changes
  all_writes_rise t g rows i changes all sorted is = writes_rise t g (map (λ r. r.now) rows) changes sorted (is ∙ ap (λ rs. map (change_by t g) (map (λ r. r.now) rs)) (take_all i rows all))

  -- and so is one row
  pub write_rises : (t : ℕ) (g : Row A → Option (List (Value A))) (row : Row A) (changes : List (Change A)) → changes ≡ change_by t g row ∷ [] → AreOfTable t changes
  write_rises t g row changes is = writes_rise t g (row ∷ []) changes refl is

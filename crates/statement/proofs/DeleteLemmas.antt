-- Rows that go, and the rows that reference them.
use Rattle.std.proofs.Common.{◌≡◌, refl, sym, ap, subst, ◌∙◌, ℕ, zero, suc, ◌+◌, ◌<◌, ◌≤◌, Bool, true, false, true≢false, cond, not, ◌&&◌, ◌||◌, ◌⊎◌, inl, inr, List, [], ◌∷◌, ◌++◌, map, take, drop, length, get_or, Some, None, Result, Ok, Err, Bor, is_ok, append_assoc, arith}
use Rattle.std.proofs.lemmas.Bool.{ltb-true, and_parts}
use Rattle.std.proofs.lemmas.List.{append-nil}
use Rattle.std.proofs.lemmas.List.Sorted.{searchable_from_sorted}
use Rattle.std.specs.FinMap.{is_sorted}
use Rattle.std.specs.FinMap.Entries.{below_all}
use Rattle.std.specs.List.{AllByRecursion, list_all, list_any}
use Rattle.std.specs.List.Sorted.{IsBinarySearchResult, IsSearchInRange}
use Rattle.std.specs.Ordering.{is_eq, is_lt, ordering_reverse}
use Rattle.std.specs.declared.cmp.Ordering.{Ordering}
use Rattle.std.specs.declared.cmp.Ordering.TheVariants.{Less, Equal, Greater}
use Rattle.value.specs.declared.value.Value.{Value}
use Rattle.value.specs.declared.refusal.Code.TheVariants as code
use Rattle.value.specs.Order.{value_cmp, value_cmp-total}
use Rattle.schema.specs.Definition.{Catalog, Column}
use Rattle.schema.specs.declared.row.Row.{Row}
use Rattle.schema.specs.declared.changes.Change.{Change}
use Rattle.schema.specs.declared.tables.Tables.{Tables}
use Rattle.schema.specs.Plain.{cells, columns_of, is_null, row_at, rows_of, same}
use Rattle.schema.proofs.PlainLemmas.{same_value}
use Rattle.statement.specs.declared.condition.Condition.{Condition}
use Rattle.statement.specs.declared.statement.Statement.TheVariants.{Delete}
use Rattle.statement.specs.declared.outcome.Mark.{Mark}
use Rattle.statement.specs.declared.outcome.Outcome.{Outcome}
use Rattle.statement.specs.declared.reply.Reply.TheVariants.{Deleted}
use Rattle.statement.specs.Conditions.{is_so}
use Rattle.statement.specs.declared.condition.Comparison.TheVariants as is
use Rattle.statement.specs.Evaluation.{at_table, deleted, is_gone, least_table, names_one, references, removes, writes_rows, ◌or_else◌}
use Rattle.statement.specs.Marks.{marks_of, references_of}
use Rattle.statement.specs.Fits.{Fits, condition_fits, has_table}
use Rattle.statement.specs.Walk.{AreReadable, are_of}
use Rattle.statement.specs.Writing.{AreRowsOf, references_of_rows}
use Rattle.statement.proofs.HeldLemmas.{held_length, held_readable}

module _ {A : Type 0} where
  -- ---- the rows that go, by a binary search

  below_here : (k : Value A) (r : Bor (Row A)) (rows : List (Bor (Row A))) → below_all value_cmp k (map (λ x. x.now) (r ∷ rows)) ≡ true → is_lt (value_cmp r.now.0 k) ≡ false
  below_here k r rows below = go (value_cmp k r.now.0) (and_parts (is_lt (value_cmp k r.now.0)) (below_all value_cmp k (map (λ x. x.now) rows)) below).0 (value_cmp-total.antisymm r.now.0 k)
    where
      go : (o : Ordering) → is_lt o ≡ true → value_cmp r.now.0 k ≡ ordering_reverse o → is_lt (value_cmp r.now.0 k) ≡ false
      go Less e q = ap is_lt q
      go Equal e q = absurd (true≢false (sym e))
      go Greater e q = absurd (true≢false (sym e))

  neighbours : (rows : List (Bor (Row A))) → is_sorted value_cmp (map (λ x. x.now) rows) ≡ true → (k : ℕ) (d : Bor (Row A)) → suc k < length rows → is_lt (value_cmp (get_or rows (suc k) d).now.0 (get_or rows k d).now.0) ≡ false
  neighbours [] sorted k d lt = absurd (omega arith)
  neighbours (r ∷ []) sorted k d lt = absurd (omega arith)
  neighbours (r ∷ s ∷ rows) sorted zero d lt = below_here r.now.0 s rows (and_parts (below_all value_cmp r.now.0 (map (λ x. x.now) (s ∷ rows))) (is_sorted value_cmp (map (λ x. x.now) (s ∷ rows))) sorted).0
  neighbours (r ∷ s ∷ rows) sorted (suc k) d lt = neighbours (s ∷ rows) (and_parts (below_all value_cmp r.now.0 (map (λ x. x.now) (s ∷ rows))) (is_sorted value_cmp (map (λ x. x.now) (s ∷ rows))) sorted).1 k d (omega arith)

  neighbours_more : (rows : List (Bor (Row A))) → is_sorted value_cmp (map (λ x. x.now) rows) ≡ true → (k n : ℕ) (d : Bor (Row A)) → suc k ≡ n → n < length rows → is_lt (value_cmp (get_or rows n d).now.0 (get_or rows k d).now.0) ≡ false
  neighbours_more rows sorted k n d next lt = subst (λ m. is_lt (value_cmp (get_or rows m d).now.0 (get_or rows k d).now.0) ≡ false) next (neighbours rows sorted k d (omega arith))

  any_at : (v : Value A) (rows : List (Bor (Row A))) (i : ℕ) → i < length rows → ((d : Bor (Row A)) → value_cmp (get_or rows i d).now.0 v ≡ Equal) → list_any (λ row. same row.0 v) (map (λ x. x.now) rows) ≡ true
  any_at v [] i lt f = absurd (omega arith)
  any_at v (r ∷ rows) zero lt f = ap (λ o. is_eq o || list_any (λ row. same row.0 v) (map (λ x. x.now) rows)) (f r)
  any_at v (r ∷ rows) (suc i) lt f = go (same r.now.0 v) (any_at v rows i (omega arith) f)
    where
      go : (b : Bool) → list_any (λ row. same row.0 v) (map (λ x. x.now) rows) ≡ true → (b || list_any (λ row. same row.0 v) (map (λ x. x.now) rows)) ≡ true
      go true e = refl
      go false e = e

  none_at : (v : Value A) (rows : List (Bor (Row A))) → ((k : ℕ) (d : Bor (Row A)) → k < length rows → same (get_or rows k d).now.0 v ≡ false) → list_any (λ row. same row.0 v) (map (λ x. x.now) rows) ≡ false
  none_at v [] f = refl
  none_at v (r ∷ rows) f = ap (λ b. b || list_any (λ row. same row.0 v) (map (λ x. x.now) rows)) (f 0 r (omega arith)) ∙ none_at v rows (λ k d lt. f (suc k) d (omega arith))

  -- what a binary search for a key says
  pub searched_key : (v : Value A) (rows : List (Bor (Row A))) (r : Result ℕ ℕ) → is_sorted value_cmp (map (λ x. x.now) rows) ≡ true → IsSearchInRange r (length rows) → IsBinarySearchResult (λ row. value_cmp row.now.0 v) rows r
      → is_ok r ≡ list_any (λ row. same row.0 v) (map (λ x. x.now) rows)
  searched_key v rows (Ok i) sorted bound found = sym (any_at v rows i bound found)
  searched_key v rows (Err i) sorted bound parted =
      let p = parted (searchable_from_sorted value_cmp-total (λ (row : Bor (Row A)). row.now.0) rows v (λ k d l h. neighbours_more rows sorted k (k + 1) d (omega arith) h)) in
      sym (none_at v rows (λ k d lt. go k d lt (two k i) p.0 p.1))
    where
      two : (k i : ℕ) → (k < i) ⊎ (i ≤ k)
      two k i = grind arith

      go : (k : ℕ) (d : Bor (Row A)) → k < length rows → (k < i) ⊎ (i ≤ k)
          → ((k : ℕ) (d : Bor (Row A)) → 0 ≤ k → k < i → value_cmp (get_or rows k d).now.0 v ≡ Less)
          → ((k : ℕ) (d : Bor (Row A)) → i ≤ k → k < length rows → value_cmp (get_or rows k d).now.0 v ≡ Greater) → same (get_or rows k d).now.0 v ≡ false
      go k d lt (inl h) before after = ap is_eq (before k d (omega arith) h)
      go k d lt (inr h) before after = ap is_eq (after k d h lt)

  so_is : (v : Value A) → is_null v ≡ false → (w : Value A) → same w v ≡ is_so w is.Equal v
  so_is v n w = go (same w v) refl
    where
      go : (b : Bool) → same w v ≡ b → b ≡ (not (is_null w) && not (is_null v) && b)
      go true e = sym (ap (λ x. not (is_null x) && not (is_null v) && true) (same_value w v e) ∙ ap (λ c. not c && not c && true) n)
      go false e = and_false (not (is_null w) && not (is_null v))
        where
          and_false : (c : Bool) → false ≡ (c && false)
          and_false true = refl
          and_false false = refl

  -- a value that isn't null is the key of a row that goes where it is one of their keys
  pub gone_is : (v : Value A) → is_null v ≡ false → (rows : List (Row A)) → list_any (λ row. same row.0 v) rows ≡ is_gone rows v
  gone_is v n [] = refl
  gone_is v n (r ∷ rows) = ap (λ b. b || list_any (λ row. same row.0 v) rows) (so_is v n r.0) ∙ ap (λ b. is_so r.0 is.Equal v || b) (gone_is v n rows)

  pub null_stays : (v : Value A) → is_null v ≡ true → (rows : List (Row A)) → is_gone rows v ≡ false
  null_stays v n [] = refl
  null_stays v n (r ∷ rows) = ap (λ b. (not (is_null r.0) && not b && same r.0 v) || is_gone rows v) n ∙ go (not (is_null r.0)) ∙ null_stays v n rows
    where
      go : (b : Bool) → ((b && false && same r.0 v) || is_gone rows v) ≡ is_gone rows v
      go true = refl
      go false = refl

  -- ---- tables that reference it, and tables that don't

  unreferenced_row : (t : ℕ) (gone : List (Row A)) (ds : List Column) (vs : List (Value A)) → list_any (references t) ds ≡ false → names_one t gone ds vs ≡ false
  unreferenced_row t gone [] vs e = refl
  unreferenced_row t gone (d ∷ ds) [] e = refl
  unreferenced_row t gone (d ∷ ds) (v ∷ vs) e = go (references t d) e (unreferenced_row t gone ds vs)
    where
      go : (b : Bool) → (b || list_any (references t) ds) ≡ false → (list_any (references t) ds ≡ false → names_one t gone ds vs ≡ false) → ((b && is_gone gone v) || names_one t gone ds vs) ≡ false
      go true h rest = absurd (true≢false h)
      go false h rest = rest h

  -- no row of a table without a column that references t names a key of it
  pub unreferenced : (t : ℕ) (gone : List (Row A)) (ds : List Column) (rows : List (Row A)) → list_any (references t) ds ≡ false → list_any (λ row. names_one t gone ds (cells row)) rows ≡ false
  unreferenced t gone ds [] e = refl
  unreferenced t gone ds (r ∷ rows) e = ap (λ b. b || list_any (λ row. names_one t gone ds (cells row)) rows) (unreferenced_row t gone ds (cells r) e) ∙ unreferenced t gone ds rows e

  -- the least table is the one at k, or one of those after it
  pub least_step : (t : ℕ) (gone : List (Row A)) (u : ℕ) (c : Catalog) (X : Tables A) (k : ℕ) → k < length c → length X ≡ length c
      → least_table t gone u (drop k c) (drop k X) ≡ cond (list_any (λ row. names_one t gone (columns_of c k) (cells row)) (rows_of X k)) (Some u) (least_table t gone (suc u) (drop (suc k) c) (drop (suc k) X))
  least_step t gone u [] X k lt len = absurd (omega arith)
  least_step t gone u (d ∷ ds) [] k lt len = absurd (omega arith)
  least_step t gone u (d ∷ ds) (rows ∷ more) zero lt len = refl
  least_step t gone u (d ∷ ds) (rows ∷ more) (suc k) lt len = least_step t gone u ds more k (omega arith) (omega arith)

  -- ---- the rows taken away

  -- with the row at i there are its references more
  pub references_more : (t : ℕ) (ds : List Column) (rows : List (Bor (Row A))) (i : ℕ) (row : Bor (Row A)) → i < length rows → row ≡ get_or rows i row
      → references_of_rows t ds (map (λ r. r.now) (take (suc i) rows)) ≡ references_of_rows t ds (map (λ r. r.now) (take i rows)) ++ references_of t ds row.now.0 (Some row.now.1)
  references_more t ds [] i row lt is = absurd (omega arith)
  references_more t ds (r ∷ rows) zero row lt is = append-nil (references_of t ds r.now.0 (Some r.now.1)) ∙ ap (λ x. references_of t ds x.now.0 (Some x.now.1)) (sym is)
  references_more t ds (r ∷ rows) (suc i) row lt is =
      let here = references_of t ds r.now.0 (Some r.now.1) in
      ap (λ ms. here ++ ms) (references_more t ds rows i row (omega arith) is) ∙ sym (append_assoc here (references_of_rows t ds (map (λ r. r.now) (take i rows))) (references_of t ds row.now.0 (Some row.now.1)))

  -- the marks of rows that go are their references
  pub marks_of_removed : (c : Catalog) (X : Tables A) (t : ℕ) (rows : List (Row A)) → AllByRecursion (λ row. row_at X t row.0 ≡ Some row.1) rows → marks_of c X (map (removes t) rows) ≡ references_of_rows t (columns_of c t) rows
  marks_of_removed c X t [] all = refl
  marks_of_removed c X t (r ∷ rows) all =
      ap (λ o. (references_of t (columns_of c t) r.0 o ++ []) ++ marks_of c X (map (removes t) rows)) all.0
      ∙ ap (λ ms. ms ++ marks_of c X (map (removes t) rows)) (append-nil (references_of t (columns_of c t) r.0 (Some r.1)))
      ∙ ap (λ ms. references_of t (columns_of c t) r.0 (Some r.1) ++ ms) (marks_of_removed c X t rows all.1)

  -- where the table at k has such a row it is the least; else it is one of those after it
  pub least_at : (t : ℕ) (gone : List (Row A)) (c : Catalog) (X : Tables A) (k n : ℕ) (ds : List Column) (b : Bool) → k < length c → length X ≡ length c → n ≡ k → ds ≡ columns_of c n → b ≡ list_any (λ row. names_one t gone ds (cells row)) (rows_of X n)
      → least_table t gone k (drop k c) (drop k X) ≡ cond b (Some k) (least_table t gone (suc k) (drop (suc k) c) (drop (suc k) X))
  least_at t gone c X k n ds b lt len place columns is =
      least_step t gone k c X k lt len
      ∙ ap (λ m. cond (list_any (λ row. names_one t gone (columns_of c m) (cells row)) (rows_of X m)) (Some k) (least_table t gone (suc k) (drop (suc k) c) (drop (suc k) X))) (sym place)
      ∙ ap (λ ds. cond (list_any (λ row. names_one t gone ds (cells row)) (rows_of X n)) (Some k) (least_table t gone (suc k) (drop (suc k) c) (drop (suc k) X))) (sym columns)
      ∙ ap (λ b. cond b (Some k) (least_table t gone (suc k) (drop (suc k) c) (drop (suc k) X))) (sym is)

  -- ---- what a DELETE that fits has

  pub delete_has : (c : Catalog) (X : Tables A) (t : ℕ) (cs : List (Condition A)) → are_of c X ≡ true → Fits c (Delete t cs) → t < length X
  delete_has c X t cs held fits = let p = and_parts (has_table c t) (list_all (condition_fits (columns_of c t)) cs) fits in subst (λ n. t < n) (sym (held_length c X held)) (ltb-true t (length c) p.0)

  pub delete_readable : (c : Catalog) (X : Tables A) (t : ℕ) (cs : List (Condition A)) → are_of c X ≡ true → Fits c (Delete t cs) → AreReadable cs (rows_of X t)
  delete_readable c X t cs held fits = held_readable c X t cs held (and_parts (has_table c t) (list_all (condition_fits (columns_of c t)) cs) fits).1

  -- where no row references a key that goes, a DELETE takes the rows away
  pub deleted_none : (c : Catalog) (X : Tables A) (t : ℕ) (gone : List (Row A)) (n : ℕ) (changes : List (Change A)) (marks : List (Mark A)) (o : Outcome A) → AreRowsOf X t gone → None ≡ least_table t gone 0 c X → o ≡ record { reply = Deleted n; changes = changes; marks = marks }
      → n ≡ length gone → changes ≡ map (removes t) gone → marks ≡ references_of_rows t (columns_of c t) gone → o ≡ deleted c t gone X
  deleted_none c X t gone n changes marks o rows none is count these those =
      is
      ∙ ap (λ m. record { reply = Deleted m; changes = changes; marks = marks }) count
      ∙ ap (λ xs. record { reply = Deleted (length gone); changes = xs; marks = marks }) these
      ∙ ap (λ ms. record { reply = Deleted (length gone); changes = map (removes t) gone; marks = ms }) (those ∙ sym (marks_of_removed c X t gone rows.each))
      ∙ ap (λ u. at_table code.ForeignKeyViolation u or_else writes_rows c X (Deleted (length gone)) (map (removes t) gone)) none

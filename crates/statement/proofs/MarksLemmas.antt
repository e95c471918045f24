-- What a statement marks: the references of each row that it writes, before and after.
use Rattle.std.proofs.Common.{◌≡◌, refl, sym, ap, subst, ◌∙◌, ℕ, zero, suc, ◌+◌, ◌<◌, ◌≤◌, Bool, true, false, true≢false, cond, not, ◌&&◌, ◌||◌, ◌⊎◌, inl, inr, List, [], ◌∷◌, ◌++◌, map, length, slice_get, slice_index_or, Option, Some, None, is_some, unwrap_or, eqb, arith}
use Rattle.std.proofs.lemmas.Bool.{eqb-true, eq-eqb, and_from, and_parts, or_left, or_parts, or_right}
use Rattle.std.proofs.lemmas.List.{append-nil}
use Rattle.std.proofs.lemmas.Cmp.{tied_itself}
use Rattle.std.specs.Ordering.{is_eq}
use Rattle.std.specs.List.{list_any}
use Rattle.std.specs.FinMap.{find}
use Rattle.value.specs.declared.value.Value.{Value}
use Rattle.value.specs.declared.value.Value.TheVariants.{Null}
use Rattle.value.specs.Order.{value_cmp, value_cmp-total}
use Rattle.value.proofs.IsolationLemmas.{In}
use Rattle.value.proofs.Basics.{any-front, any-back}
use Rattle.schema.specs.Definition.{Column, Catalog}
use Rattle.schema.specs.declared.row.Row.{Row}
use Rattle.schema.specs.declared.changes.Change.{Change}
use Rattle.schema.specs.declared.tables.Tables.{Tables}
use Rattle.schema.specs.Plain.{same, is_null, field, row_at, columns_of, put_all}
use Rattle.schema.proofs.PlainLemmas.{same_value, touches, left_by, row_at-put_all, rows_of-past, length-put_all}
use Rattle.statement.specs.declared.outcome.Mark.{Mark}
pub use Rattle.statement.specs.Laws.{refers, refers_at}
use Rattle.statement.specs.Marks.{have_references, is_reference, references_among, references_of, marks_of_change, marks_of, is_mark, marks_reference}
use Rattle.statement.specs.Agreement.{if_naming, row_naming}

module _ {A : Type 0} where
  -- ---- columns without REFERENCES

  none_among : (t n : ℕ) (ds : List Column) (vs : List (Value A)) → have_references ds ≡ false → references_among t n ds vs ≡ []
  none_among t n [] vs e = refl
  none_among t n (d ∷ ds) [] e = refl
  none_among t n (d ∷ ds) (v ∷ vs) e =
      let parts = or_parts (is_some d.references) (have_references ds) e in
      let isnt : is_reference d v ≡ false = ap (λ b. b && not (is_null v)) parts.0 in
      ap (λ b. cond b (record { table = t; column = n; key = v } ∷ references_among t (suc n) ds vs) (references_among t (suc n) ds vs)) isnt ∙ none_among t (suc n) ds vs parts.1

  -- rows of such columns have no references, before and after
  pub none_marked : (t : ℕ) (ds : List Column) (ms : List (Mark A)) (k l : Value A) (vs ws : List (Value A)) → have_references ds ≡ false → ms ≡ ms ++ references_of t ds k (Some vs) ++ references_of t ds l (Some ws)
  none_marked t ds ms k l vs ws e =
      sym (ap (λ xs. ms ++ xs ++ references_of t ds l (Some ws)) (none_among t 0 ds (k ∷ vs) e) ∙ ap (λ xs. ms ++ [] ++ xs) (none_among t 0 ds (l ∷ ws) e) ∙ append-nil (ms ++ []) ∙ append-nil ms)

  same_itself : (v : Value A) → same v v ≡ true
  same_itself v = ap is_eq (tied_itself value_cmp-total v)

  -- what a row has in a column, where that isn't null
  pub value_there : (vs : List (Value A)) (j : ℕ) (k : Value A) → is_null k ≡ false → same k (slice_index_or vs j Null) ≡ true → slice_get vs j ≡ Some k
  value_there [] j k n s = absurd (true≢false (sym (ap is_null (same_value k Null s)) ∙ n))
  value_there (v ∷ vs) zero k n s = ap Some (sym (same_value k v s))
  value_there (v ∷ vs) (suc j) k n s = value_there vs j k n s

  among_marks : (u n : ℕ) (ds : List Column) (vs : List (Value A)) (i : ℕ) (v : Value A) → refers_at (slice_get ds i) ≡ true → slice_get vs i ≡ Some v → is_null v ≡ false → marks_reference (references_among u n ds vs) u (n + i) v ≡ true
  among_marks u n [] vs i v e f h = absurd (true≢false (sym e))
  among_marks u n (b ∷ ds) [] i v e f h = cc
  among_marks u n (b ∷ ds) (w ∷ vs) zero v e f h =
      let q : w ≡ v = cc in
      ap (λ t. list_any (is_mark u (n + 0) v) (cond t (record { table = u; column = n; key = w } ∷ references_among u (suc n) ds vs) (references_among u (suc n) ds vs))) (and_from (is_some b.references) (not (is_null w)) e (ap not (ap is_null q ∙ h)))
      ∙ or_left (is_mark u (n + 0) v (record { table = u; column = n; key = w })) _ (and_from (eqb u u && eqb n (n + 0)) (same w v) (and_from (eqb u u) (eqb n (n + 0)) (eq-eqb u u refl) (eq-eqb n (n + 0) (omega arith))) (ap (same w) (sym q) ∙ same_itself w))
  among_marks u n (b ∷ ds) (w ∷ vs) (suc i) v e f h = go (is_reference b w) (subst (λ m. marks_reference (references_among u (suc n) ds vs) u m v ≡ true) (plus_suc n i) (among_marks u (suc n) ds vs i v e f h))
    where
      plus_suc : (m j : ℕ) → suc m + j ≡ m + suc j
      plus_suc m j = omega arith

      go : (t : Bool) → marks_reference (references_among u (suc n) ds vs) u (n + suc i) v ≡ true → list_any (is_mark u (n + suc i) v) (cond t (record { table = u; column = n; key = w } ∷ references_among u (suc n) ds vs) (references_among u (suc n) ds vs)) ≡ true
      go true r = or_right (is_mark u (n + suc i) v (record { table = u; column = n; key = w })) _ r
      go false r = r

  -- a row with k in a column that has REFERENCES is marked for it
  pub naming_marks : (u : ℕ) (ds : List Column) (p : Value A) (j : ℕ) (k : Value A) (o : Option (List (Value A))) → refers_at (slice_get ds j) ≡ true → is_null k ≡ false → is_some (if_naming j k p o) ≡ true → marks_reference (references_of u ds p o) u j k ≡ true
  naming_marks u ds p j k None e n h = absurd (true≢false (sym h))
  naming_marks u ds p j k (Some fields) e n h =
      subst (λ m. marks_reference (references_among u 0 ds (p ∷ fields)) u m k ≡ true) (zero_plus j) (among_marks u 0 ds (p ∷ fields) j k e (value_there (p ∷ fields) j k n (test (same k (field (p, fields) j)) refl h)) n)
    where
      zero_plus : (m : ℕ) → 0 + m ≡ m
      zero_plus m = omega arith

      test : (b : Bool) → same k (field (p, fields) j) ≡ b → is_some (cond b (Some fields) None) ≡ true → same k (field (p, fields) j) ≡ true
      test true e h = e
      test false e h = absurd (true≢false (sym h))

  -- ---- the marks of changes

  -- the part of a change's marks that is of the row before, or of the row after
  abbrev part : Catalog → ℕ → Value A → Option (List (Value A)) → List (Mark A)
  part c u q o = references_of u (columns_of c u) q o

  before_list : (c : Catalog) (X : Tables A) (xs : List (Change A)) (t j : ℕ) (k p : Value A) → list_any (touches t p) xs ≡ true → refers c t j ≡ true → is_null k ≡ false → is_some (row_naming X t j k p) ≡ true → marks_reference (marks_of c X xs) t j k ≡ true
  before_list c X [] t j k p w e n h = absurd (true≢false (sym w))
  before_list c X (x ∷ xs) t j k p w e n h = go (touches t p x) refl w (before_list c X xs t j k p)
    where
      go : (b : Bool) → touches t p x ≡ b → (b || list_any (touches t p) xs) ≡ true → (list_any (touches t p) xs ≡ true → refers c t j ≡ true → is_null k ≡ false → is_some (row_naming X t j k p) ≡ true → marks_reference (marks_of c X xs) t j k ≡ true) → marks_reference (marks_of c X (x ∷ xs)) t j k ≡ true
      go false m g rest = any-back (is_mark t j k) (marks_of_change c X x) (marks_of c X xs) (rest g e n h)
      go true m g rest =
          let l = and_parts (eqb x.table t) (same p x.key) m in
          let here : marks_reference (part c t p (row_at X t p)) t j k ≡ true = naming_marks t (columns_of c t) p j k (row_at X t p) e n h in
          let there : marks_reference (part c x.table p (row_at X x.table p)) t j k ≡ true = subst (λ u. marks_reference (part c u p (row_at X u p)) t j k ≡ true) (sym (eqb-true x.table t l.0)) here in
          let at : marks_reference (part c x.table x.key (row_at X x.table x.key)) t j k ≡ true = subst (λ q. marks_reference (part c x.table q (row_at X x.table q)) t j k ≡ true) (same_value p x.key l.1) there in
          any-front (is_mark t j k) (marks_of_change c X x) (marks_of c X xs) (any-front (is_mark t j k) (part c x.table x.key (row_at X x.table x.key)) (part c x.table x.key x.fields) at)

  after_list : (c : Catalog) (X : Tables A) (xs : List (Change A)) (t j : ℕ) (k p : Value A) (fields : List (Value A)) → left_by t p xs ≡ Some (Some fields) → refers c t j ≡ true → is_null k ≡ false → is_some (if_naming j k p (Some fields)) ≡ true → marks_reference (marks_of c X xs) t j k ≡ true
  after_list c X [] t j k p fields w e n h = cc
  after_list c X (x ∷ xs) t j k p fields w e n h = go (left_by t p xs) refl (touches t p x) refl w (after_list c X xs t j k p fields)
    where
      go : (o : Option (Option (List (Value A)))) → left_by t p xs ≡ o → (b : Bool) → touches t p x ≡ b → cond (is_some o) o (cond b (Some x.fields) None) ≡ Some (Some fields)
          → (left_by t p xs ≡ Some (Some fields) → refers c t j ≡ true → is_null k ≡ false → is_some (if_naming j k p (Some fields)) ≡ true → marks_reference (marks_of c X xs) t j k ≡ true) → marks_reference (marks_of c X (x ∷ xs)) t j k ≡ true
      go (Some z) q b m g rest = any-back (is_mark t j k) (marks_of_change c X x) (marks_of c X xs) (rest (q ∙ g) e n h)
      go None q false m g rest = cc
      go None q true m g rest =
          let l = and_parts (eqb x.table t) (same p x.key) m in
          let f : x.fields ≡ Some fields = cc in
          let here : marks_reference (part c t p (Some fields)) t j k ≡ true = naming_marks t (columns_of c t) p j k (Some fields) e n h in
          let there : marks_reference (part c x.table p (Some fields)) t j k ≡ true = subst (λ u. marks_reference (part c u p (Some fields)) t j k ≡ true) (sym (eqb-true x.table t l.0)) here in
          let at : marks_reference (part c x.table x.key (Some fields)) t j k ≡ true = subst (λ q. marks_reference (part c x.table q (Some fields)) t j k ≡ true) (same_value p x.key l.1) there in
          let last : marks_reference (part c x.table x.key x.fields) t j k ≡ true = subst (λ o. marks_reference (part c x.table x.key o) t j k ≡ true) (sym f) at in
          any-front (is_mark t j k) (marks_of_change c X x) (marks_of c X xs) (any-back (is_mark t j k) (part c x.table x.key (row_at X x.table x.key)) (part c x.table x.key x.fields) last)

  -- a written row with k in column j before the changes is marked for it
  pub marks_of-before : (c : Catalog) (X : Tables A) (xs : List (Change A)) (t j : ℕ) (k p : Value A) → list_any (touches t p) xs ≡ true → refers c t j ≡ true → is_null k ≡ false → is_some (row_naming X t j k p) ≡ true → marks_reference (marks_of c X xs) t j k ≡ true
  marks_of-before c X xs t j k p w e n h = before_list c X xs t j k p w e n h

  -- and one with it after them
  pub marks_of-after : (c : Catalog) (X : Tables A) (xs : List (Change A)) (t j : ℕ) (k p : Value A) → list_any (touches t p) xs ≡ true → refers c t j ≡ true → is_null k ≡ false → is_some (row_naming (put_all xs X) t j k p) ≡ true → marks_reference (marks_of c X xs) t j k ≡ true
  marks_of-after c X xs t j k p w e n h = place (two_ways (length X) t)
    where
      two_ways : (m n : ℕ) → (m ≤ n) ⊎ (n < m)
      two_ways m n = grind arith

      left : (o : Option (Option (List (Value A)))) → left_by t p xs ≡ o → is_some (if_naming j k p (unwrap_or o (row_at X t p))) ≡ true → marks_reference (marks_of c X xs) t j k ≡ true
      left None q g = before_list c X xs t j k p w e n g
      left (Some None) q g = absurd (true≢false (sym g))
      left (Some (Some fields)) q g = after_list c X xs t j k p fields q e n g

      place : (length X ≤ t) ⊎ (t < length X) → marks_reference (marks_of c X xs) t j k ≡ true
      place (inl l) = absurd (true≢false (sym h ∙ ap (λ rows. is_some (if_naming j k p (find value_cmp p rows))) (rows_of-past (put_all xs X) t (rw (length-put_all xs X) l))))
      place (inr l) = left (left_by t p xs) refl (sym (ap (λ o. is_some (if_naming j k p o)) (row_at-put_all xs X t p l)) ∙ h)

  -- ---- the marks are the same on tables that have the same rows at the keys that are written

  -- the tables have the same row at the key of each of these
  abbrev pub SameAt : ℕ → List (Row A) → Tables A → Tables A → Type 0
  SameAt t rows X Y = (r : Row A) → In r rows → row_at X t r.0 ≡ row_at Y t r.0

  pub marks_of-same : (c : Catalog) (t : ℕ) (g : Row A → Option (List (Value A))) (rows : List (Row A)) (X Y : Tables A) → SameAt t rows X Y
      → marks_of c X (map (λ row. record { table = t; key = row.0; fields = g row }) rows) ≡ marks_of c Y (map (λ row. record { table = t; key = row.0; fields = g row }) rows)
  marks_of-same c t g [] X Y f = refl
  marks_of-same c t g (r ∷ rows) X Y f =
      ap (λ o. (part c t r.0 o ++ part c t r.0 (g r)) ++ marks_of c X (map (λ row. record { table = t; key = row.0; fields = g row }) rows)) (f r (inl refl))
      ∙ ap (λ ms. (part c t r.0 (row_at Y t r.0) ++ part c t r.0 (g r)) ++ ms) (marks_of-same c t g rows X Y (λ x i. f x (inr i)))

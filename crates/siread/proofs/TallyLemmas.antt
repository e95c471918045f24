-- What a walk over the readings finds is what the list of the different extents of a table says.
use Rattle.std.proofs.Common.{◌≡◌, refl, sym, ap, ◌∙◌, ℕ, ◌+◌, Bool, true, false, cond, ◌&&◌, ◌||◌, List, [], ◌∷◌, length, eqb, ltb, suc, arith}
use Rattle.std.proofs.lemmas.Bool.{eqb-true}
use Rattle.std.proofs.lemmas.Bool.Decides.{nat_tests}
use Rattle.std.proofs.lemmas.List.Sums.{length-filter}
use Rattle.std.specs.Prelude.{count_by}
use Rattle.std.specs.List.{list_any, filter}
use Rattle.std.specs.Ordering.{is_le, is_ge}
use Rattle.value.specs.declared.value.Value.{Value}
use Rattle.value.specs.Order.{value_cmp}
use Rattle.value.proofs.Basics.{any-weaker}
use Rattle.schema.specs.Plain.{same}
use Rattle.statement.specs.declared.reading.Extent.{Extent}
use Rattle.statement.specs.declared.reading.Extent.TheVariants.{Whole, One, Range, Referencing}
use Rattle.statement.specs.declared.reading.Reading.{Reading}
use Rattle.statement.specs.Cover.{has_key, has_reference, same_extent, distinct, extents_in, is_whole, keys_of, ranges_of, references_read, has_many_keys, has_many_ranges, has_many_references}
use Rattle.statement.proofs.CoverLemmas.{same_extent_is}
use Rattle.siread.specs.declared.extent.Form.{Form}
use Rattle.siread.specs.declared.extent.Form.TheVariants as form
use Rattle.siread.specs.declared.extent.Sought.TheVariants as sought
use Rattle.siread.specs.Extents.{has_form, is_sought, is_read, read_in, IsEachOnce}

-- one range more
pub with_keys : (n : ℕ) → ltb 3 n ≡ ltb 4 (n + 1)
with_keys n = grind (arith, nat_tests)

pub without_keys : (n : ℕ) → ltb 4 n ≡ ltb 4 (n + 0)
without_keys n = grind (arith, nat_tests)

module _ {A : Type 0} where
  -- a test finds among the readings what it finds among the extents of the table
  pub in_table : (p : Extent A → Bool) (t : ℕ) (rs : List (Reading A)) → list_any (is_read t p) rs ≡ list_any p (extents_in t rs)
  in_table p t [] = refl
  in_table p t (r ∷ rs) = go (eqb r.table t) (in_table p t rs)
    where
      go : (b : Bool) → list_any (is_read t p) rs ≡ list_any p (extents_in t rs) → ((b && p r.extent) || list_any (is_read t p) rs) ≡ list_any p (cond b (r.extent ∷ extents_in t rs) (extents_in t rs))
      go true rest = ap (λ b. p r.extent || b) rest
      go false rest = rest

  -- and among the different ones
  pub once : (p : Extent A → Bool) (es : List (Extent A)) → list_any p es ≡ list_any p (distinct es)
  once p [] = refl
  once p (x ∷ es) = go (list_any (same_extent x) es) refl (p x) refl (once p es)
    where
      go : (b : Bool) → list_any (same_extent x) es ≡ b → (h : Bool) → p x ≡ h → list_any p es ≡ list_any p (distinct es) → (h || list_any p es) ≡ list_any p (cond b (distinct es) (x ∷ distinct es))
      go true s true q rest = sym (any-weaker (same_extent x) p (λ y e. ap p (sym (same_extent_is x y e)) ∙ q) es s) ∙ rest
      go true s false q rest = rest
      go false s true q rest = sym (ap (λ b. b || list_any p (distinct es)) q)
      go false s false q rest = rest ∙ sym (ap (λ b. b || list_any p (distinct es)) q)

  pub is_found : (p : Extent A → Bool) (t : ℕ) (rs : List (Reading A)) → list_any (is_read t p) rs ≡ list_any p (distinct (extents_in t rs))
  is_found p t rs = in_table p t rs ∙ once p (extents_in t rs)

  -- ---- counting

  -- each reading is of an extent of its own
  read_in-each_once : (t : ℕ) (rs : List (Reading A)) → IsEachOnce rs → read_in t rs ≡ extents_in t rs
  read_in-each_once t [] o = refl
  read_in-each_once t (r ∷ rs) o = go (eqb r.table t) refl (read_in-each_once t rs o.1)
    where
      absent : eqb r.table t ≡ true → list_any (same_extent r.extent) (extents_in t rs) ≡ false
      absent e = sym (in_table (same_extent r.extent) t rs) ∙ ap (λ u. list_any (is_read u (same_extent r.extent)) rs) (sym (eqb-true r.table t e)) ∙ o.0

      go : (b : Bool) → eqb r.table t ≡ b → distinct (extents_in t rs) ≡ extents_in t rs → distinct (cond b (r.extent ∷ extents_in t rs) (extents_in t rs)) ≡ cond b (r.extent ∷ extents_in t rs) (extents_in t rs)
      go true e rest = ap (λ c. cond c (distinct (extents_in t rs)) (r.extent ∷ distinct (extents_in t rs))) (absent e) ∙ ap (λ es. r.extent ∷ es) rest
      go false e rest = rest

  filter-is_read : (p : Extent A → Bool) (t : ℕ) (rs : List (Reading A)) → length (filter (is_read t p) rs) ≡ length (filter p (extents_in t rs))
  filter-is_read p t [] = refl
  filter-is_read p t (r ∷ rs) = go (eqb r.table t) (p r.extent) (filter-is_read p t rs)
    where
      go : (b c : Bool) → length (filter (is_read t p) rs) ≡ length (filter p (extents_in t rs))
          → length (cond (b && p r.extent) (r ∷ filter (is_read t p) rs) (filter (is_read t p) rs)) ≡ length (filter p (cond b (r.extent ∷ extents_in t rs) (extents_in t rs)))
      go true c e = same_choice (p r.extent)
        where
          same_choice : (h : Bool) → length (cond h (r ∷ filter (is_read t p) rs) (filter (is_read t p) rs)) ≡ length (cond h (r.extent ∷ filter p (extents_in t rs)) (filter p (extents_in t rs)))
          same_choice true = ap suc e
          same_choice false = e
      go false c e = e

  is_counted : (f : Form) (t : ℕ) (rs : List (Reading A)) → IsEachOnce rs → count_by (is_read t (has_form f)) rs ≡ length (filter (has_form f) (read_in t rs))
  is_counted f t rs o =
      sym (length-filter (is_read t (has_form f)) rs) ∙ filter-is_read (has_form f) t rs
      ∙ ap (λ es. length (filter (has_form f) es)) (sym (read_in-each_once t rs o))

  whole_form : (es : List (Extent A)) → list_any (has_form form.Whole) es ≡ list_any is_whole es
  whole_form [] = refl
  whole_form (Whole ∷ es) = refl
  whole_form (One v ∷ es) = whole_form es
  whole_form (Range a b ∷ es) = whole_form es
  whole_form (Referencing j v ∷ es) = whole_form es

  key_form : (es : List (Extent A)) → length (filter (has_form form.Key) es) ≡ length (keys_of es)
  key_form [] = refl
  key_form (Whole ∷ es) = key_form es
  key_form (One v ∷ es) = ap suc (key_form es)
  key_form (Range a b ∷ es) = key_form es
  key_form (Referencing j v ∷ es) = key_form es

  range_form : (es : List (Extent A)) → length (filter (has_form form.Range) es) ≡ length (ranges_of es)
  range_form [] = refl
  range_form (Whole ∷ es) = range_form es
  range_form (One v ∷ es) = range_form es
  range_form (Range a b ∷ es) = ap suc (range_form es)
  range_form (Referencing j v ∷ es) = range_form es

  reference_form : (es : List (Extent A)) → length (filter (has_form form.Reference) es) ≡ length (references_read es)
  reference_form [] = refl
  reference_form (Whole ∷ es) = reference_form es
  reference_form (One v ∷ es) = reference_form es
  reference_form (Range a b ∷ es) = reference_form es
  reference_form (Referencing j v ∷ es) = ap suc (reference_form es)

  pub finds_whole : (t : ℕ) (rs : List (Reading A)) → list_any (is_read t (has_form form.Whole)) rs ≡ list_any is_whole (read_in t rs)
  finds_whole t rs = is_found (has_form form.Whole) t rs ∙ whole_form (read_in t rs)

  pub many_keys : (t : ℕ) (rs : List (Reading A)) → IsEachOnce rs → ltb 8 (count_by (is_read t (has_form form.Key)) rs) ≡ has_many_keys (keys_of (read_in t rs))
  many_keys t rs o = ap (ltb 8) (is_counted form.Key t rs o ∙ key_form (read_in t rs))

  pub many_references : (t : ℕ) (rs : List (Reading A)) → IsEachOnce rs → ltb 8 (count_by (is_read t (has_form form.Reference)) rs) ≡ has_many_references (read_in t rs)
  many_references t rs o = ap (ltb 8) (is_counted form.Reference t rs o ∙ reference_form (read_in t rs))

  pub count-ranges : (t : ℕ) (rs : List (Reading A)) → IsEachOnce rs → count_by (is_read t (has_form form.Range)) rs ≡ length (ranges_of (read_in t rs))
  count-ranges t rs o = is_counted form.Range t rs o ∙ range_form (read_in t rs)

  pub many_ranges : (t : ℕ) (rs : List (Reading A)) → IsEachOnce rs → (b : Bool) → b ≡ has_many_keys (keys_of (read_in t rs)) → ltb (cond b 3 4) (count_by (is_read t (has_form form.Range)) rs) ≡ has_many_ranges (read_in t rs)
  many_ranges t rs o b e = go b e
    where
      go : (b : Bool) → b ≡ has_many_keys (keys_of (read_in t rs)) → ltb (cond b 3 4) (count_by (is_read t (has_form form.Range)) rs) ≡ has_many_ranges (read_in t rs)
      go true q = ap (ltb 3) (count-ranges t rs o) ∙ with_keys (length (ranges_of (read_in t rs))) ∙ ap (λ c. ltb 4 (length (ranges_of (read_in t rs)) + cond c 1 0)) q
      go false q = ap (ltb 4) (count-ranges t rs o) ∙ without_keys (length (ranges_of (read_in t rs))) ∙ ap (λ c. ltb 4 (length (ranges_of (read_in t rs)) + cond c 1 0)) q

  -- ---- what is sought

  around : (k : Value A) (es : List (Extent A)) → list_any (is_sought sought.RangeAround k) es ≡ list_any (has_key k) (ranges_of es)
  around k [] = refl
  around k (Whole ∷ es) = around k es
  around k (One v ∷ es) = around k es
  around k (Range a b ∷ es) = ap (λ h. has_key k (Range a b) || h) (around k es)
  around k (Referencing j v ∷ es) = around k es

  itself : (k : Value A) (es : List (Extent A)) → list_any (is_sought sought.KeyItself k) es ≡ list_any (λ v. same v k) (keys_of es)
  itself k [] = refl
  itself k (Whole ∷ es) = itself k es
  itself k (One v ∷ es) = ap (λ h. same v k || h) (itself k es)
  itself k (Range a b ∷ es) = itself k es
  itself k (Referencing j v ∷ es) = itself k es

  at_most : (k : Value A) (es : List (Extent A)) → list_any (is_sought sought.KeyAtMost k) es ≡ list_any (λ v. is_le (value_cmp v k)) (keys_of es)
  at_most k [] = refl
  at_most k (Whole ∷ es) = at_most k es
  at_most k (One v ∷ es) = ap (λ h. is_le (value_cmp v k) || h) (at_most k es)
  at_most k (Range a b ∷ es) = at_most k es
  at_most k (Referencing j v ∷ es) = at_most k es

  at_least : (k : Value A) (es : List (Extent A)) → list_any (is_sought sought.KeyAtLeast k) es ≡ list_any (λ v. is_ge (value_cmp v k)) (keys_of es)
  at_least k [] = refl
  at_least k (Whole ∷ es) = at_least k es
  at_least k (One v ∷ es) = ap (λ h. is_ge (value_cmp v k) || h) (at_least k es)
  at_least k (Range a b ∷ es) = at_least k es
  at_least k (Referencing j v ∷ es) = at_least k es

  referencing : (j : ℕ) (k : Value A) (es : List (Extent A)) → list_any (is_sought (sought.ReferenceIn j) k) es ≡ list_any (has_reference j k) es
  referencing j k [] = refl
  referencing j k (Whole ∷ es) = referencing j k es
  referencing j k (One v ∷ es) = referencing j k es
  referencing j k (Range a b ∷ es) = referencing j k es
  referencing j k (Referencing i v ∷ es) = ap (λ h. (eqb i j && same v k) || h) (referencing j k es)

  pub finds_range : (t : ℕ) (k : Value A) (rs : List (Reading A)) → list_any (is_read t (is_sought sought.RangeAround k)) rs ≡ list_any (has_key k) (ranges_of (distinct (extents_in t rs)))
  finds_range t k rs = is_found (is_sought sought.RangeAround k) t rs ∙ around k (distinct (extents_in t rs))

  pub finds_key : (t : ℕ) (k : Value A) (rs : List (Reading A)) → list_any (is_read t (is_sought sought.KeyItself k)) rs ≡ list_any (λ v. same v k) (keys_of (distinct (extents_in t rs)))
  finds_key t k rs = is_found (is_sought sought.KeyItself k) t rs ∙ itself k (distinct (extents_in t rs))

  pub finds_at_most : (t : ℕ) (k : Value A) (rs : List (Reading A)) → list_any (is_read t (is_sought sought.KeyAtMost k)) rs ≡ list_any (λ v. is_le (value_cmp v k)) (keys_of (distinct (extents_in t rs)))
  finds_at_most t k rs = is_found (is_sought sought.KeyAtMost k) t rs ∙ at_most k (distinct (extents_in t rs))

  pub finds_at_least : (t : ℕ) (k : Value A) (rs : List (Reading A)) → list_any (is_read t (is_sought sought.KeyAtLeast k)) rs ≡ list_any (λ v. is_ge (value_cmp v k)) (keys_of (distinct (extents_in t rs)))
  finds_at_least t k rs = is_found (is_sought sought.KeyAtLeast k) t rs ∙ at_least k (distinct (extents_in t rs))

  pub finds_reference : (t j : ℕ) (k : Value A) (rs : List (Reading A)) → list_any (is_read t (is_sought (sought.ReferenceIn j) k)) rs ≡ list_any (has_reference j k) (distinct (extents_in t rs))
  finds_reference t j k rs = is_found (is_sought (sought.ReferenceIn j) k) t rs ∙ referencing j k (distinct (extents_in t rs))

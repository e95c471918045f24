-- What was read is covered.
use Rattle.std.proofs.Common.{◌≡◌, refl, sym, ap, ◌∙◌, ℕ, Bool, true, false, true≢false, cond, ◌&&◌, ◌||◌, ◌⊎◌, inl, inr, List, [], ◌∷◌, eqb}
use Rattle.std.proofs.lemmas.Bool.{eqb-true, or_right, or_left, and_parts}
use Rattle.std.specs.List.{list_any, list_all}
use Rattle.std.specs.declared.cmp.Ordering.{Ordering}
use Rattle.std.specs.declared.cmp.Ordering.TheVariants.{Less, Equal, Greater}
use Rattle.std.specs.Ordering.{is_eq, is_le, is_ge}
use Rattle.value.specs.declared.value.Value.{Value}
use Rattle.value.specs.Order.{value_cmp}
use Rattle.value.proofs.IsolationLemmas.{In}
use Rattle.value.proofs.Basics.{any-weaker}
use Rattle.schema.specs.Plain.{same}
use Rattle.schema.proofs.PlainLemmas.{same_value}
use Rattle.statement.specs.declared.reading.End.{End}
use Rattle.statement.specs.declared.reading.End.TheVariants.{Open, Closed, Without}
use Rattle.statement.specs.declared.reading.Extent.{Extent}
use Rattle.statement.specs.declared.reading.Extent.TheVariants.{Whole, One, Range, Referencing}
use Rattle.statement.specs.declared.reading.Reading.{Reading}
use Rattle.statement.specs.Cover.{has_key, has_reference, same_end, same_extent, distinct, extents_in, is_whole, keys_of, ranges_of, has_many_keys, has_many_ranges, has_many_references, covers_whole, among, covers_key, covers, covers_value, is_from, is_to}
use Rattle.statement.specs.Agreement.{reads_key, reads_value}

pub all_in : {B : Type 0} (p : B → Bool) (xs : List B) (x : B) → list_all p xs ≡ true → In x xs → p x ≡ true
all_in p [] x h i = absurd i
all_in p (y ∷ xs) x h (inl q) = ap p q ∙ (and_parts (p y) (list_all p xs) h).0
all_in p (y ∷ xs) x h (inr i) = all_in p xs x (and_parts (p y) (list_all p xs) h).1 i

first_of_three : (a b c : Bool) → a ≡ true → (a || b || c) ≡ true
first_of_three a b c e = or_left (a || b) c (or_left a b e)

second_of_three : (a b c : Bool) → b ≡ true → (a || b || c) ≡ true
second_of_three a b c e = or_left (a || b) c (or_right a b e)

third_of_three : (a b c : Bool) → c ≡ true → (a || b || c) ≡ true
third_of_three a b c e = or_right (a || b) c e

module _ {A : Type 0} where
  same_end_is : (a b : End A) → same_end a b ≡ true → a ≡ b
  same_end_is Open Open e = refl
  same_end_is (Closed v) (Closed w) e = ap Closed (same_value v w e)
  same_end_is (Without v) (Without w) e = ap Without (same_value v w e)
  same_end_is _ _ e = absurd (true≢false (sym e))

  pub same_extent_is : (a b : Extent A) → same_extent a b ≡ true → a ≡ b
  same_extent_is Whole Whole e = refl
  same_extent_is (One v) (One w) e = ap One (same_value v w e)
  same_extent_is (Range a b) (Range c d) e =
      let p = and_parts (same_end a c) (same_end b d) e in
      ap (λ x. Range x b) (same_end_is a c p.0) ∙ ap (Range c) (same_end_is b d p.1)
  same_extent_is (Referencing i v) (Referencing j w) e =
      let p = and_parts (eqb i j) (same v w) e in
      ap (λ x. Referencing x v) (eqb-true i j p.0) ∙ ap (Referencing j) (same_value v w p.1)
  same_extent_is _ _ e = absurd (true≢false (sym e))

  pub distinct_any : (p : Extent A → Bool) (es : List (Extent A)) → list_any p es ≡ true → list_any p (distinct es) ≡ true
  distinct_any p [] e = e
  distinct_any p (x ∷ es) e = go (list_any (same_extent x) es) refl (p x) refl (distinct_any p es) e
    where
      go : (b : Bool) → list_any (same_extent x) es ≡ b → (h : Bool) → p x ≡ h → (list_any p es ≡ true → list_any p (distinct es) ≡ true) → (h || list_any p es) ≡ true → list_any p (cond b (distinct es) (x ∷ distinct es)) ≡ true
      go true s true q rest g = rest (any-weaker (same_extent x) p (λ y t. ap p (sym (same_extent_is x y t)) ∙ q) es s)
      go true s false q rest g = rest g
      go false s true q rest g = or_left (p x) _ q
      go false s false q rest g = or_right (p x) _ (rest g)

  in_some : (k : Value A) (es : List (Extent A)) → list_any (has_key k) es ≡ true → (list_any is_whole es ≡ true) ⊎ (list_any (has_key k) (ranges_of es) ≡ true) ⊎ (list_any (λ v. same v k) (keys_of es) ≡ true)
  in_some k [] e = inl e
  in_some k (Whole ∷ es) e = inl refl
  in_some k (One v ∷ es) e = go (same v k) (in_some k es) e
    where
      go : (b : Bool) → (list_any (has_key k) es ≡ true → (list_any is_whole es ≡ true) ⊎ (list_any (has_key k) (ranges_of es) ≡ true) ⊎ (list_any (λ v. same v k) (keys_of es) ≡ true)) → (b || list_any (has_key k) es) ≡ true
          → (list_any is_whole es ≡ true) ⊎ (list_any (has_key k) (ranges_of es) ≡ true) ⊎ ((b || list_any (λ v. same v k) (keys_of es)) ≡ true)
      go true rest g = inr (inr refl)
      go false rest g = rest g
  in_some k (Referencing j v ∷ es) e = in_some k es e
  in_some k (Range a b ∷ es) e = go (is_from a k && is_to b k) (in_some k es) e
    where
      go : (h : Bool) → (list_any (has_key k) es ≡ true → (list_any is_whole es ≡ true) ⊎ (list_any (has_key k) (ranges_of es) ≡ true) ⊎ (list_any (λ v. same v k) (keys_of es) ≡ true)) → (h || list_any (has_key k) es) ≡ true
          → (list_any is_whole es ≡ true) ⊎ ((h || list_any (has_key k) (ranges_of es)) ≡ true) ⊎ (list_any (λ v. same v k) (keys_of es) ≡ true)
      go true rest g = inr (inl refl)
      go false rest g = rest g

  among_keys : (k : Value A) (keys : List (Value A)) → list_any (λ v. same v k) keys ≡ true → among keys k ≡ true
  among_keys k keys e = go (has_many_keys keys)
    where
      le : (o : Ordering) → is_eq o ≡ true → is_le o ≡ true
      le Less h = refl
      le Equal h = refl
      le Greater h = absurd (true≢false (sym h))

      ge : (o : Ordering) → is_eq o ≡ true → is_ge o ≡ true
      ge Less h = absurd (true≢false (sym h))
      ge Equal h = refl
      ge Greater h = refl

      both : (a b : Bool) → a ≡ true → b ≡ true → (a && b) ≡ true
      both true b p q = q
      both false b p q = absurd (true≢false (sym p))

      go : (b : Bool) → cond b (list_any (λ v. is_le (value_cmp v k)) keys && list_any (λ v. is_ge (value_cmp v k)) keys) (list_any (λ v. same v k) keys) ≡ true
      go true = both _ _ (any-weaker (λ v. same v k) (λ v. is_le (value_cmp v k)) (λ v h. le (value_cmp v k) h) keys e) (any-weaker (λ v. same v k) (λ v. is_ge (value_cmp v k)) (λ v h. ge (value_cmp v k) h) keys e)
      go false = e

  covers_extents : (k : Value A) (es : List (Extent A)) → list_any (has_key k) es ≡ true → covers_key es k ≡ true
  covers_extents k es e = go (in_some k es e)
    where
      go : (list_any is_whole es ≡ true) ⊎ (list_any (has_key k) (ranges_of es) ≡ true) ⊎ (list_any (λ v. same v k) (keys_of es) ≡ true) → covers_key es k ≡ true
      go (inl h) = first_of_three (covers_whole es) (list_any (has_key k) (ranges_of es)) (among (keys_of es) k) (first_of_three (list_any is_whole es) (has_many_ranges es) (has_many_references es) h)
      go (inr (inl h)) = second_of_three (covers_whole es) (list_any (has_key k) (ranges_of es)) (among (keys_of es) k) h
      go (inr (inr h)) = third_of_three (covers_whole es) (list_any (has_key k) (ranges_of es)) (among (keys_of es) k) (among_keys k (keys_of es) h)

  -- what was read in a table is an extent of that table
  read_in_table : (p : Extent A → Bool) (t : ℕ) (rs : List (Reading A)) → list_any (λ r. eqb r.table t && p r.extent) rs ≡ true → list_any p (extents_in t rs) ≡ true
  read_in_table p t [] e = e
  read_in_table p t (r ∷ rs) e = go (eqb r.table t) (read_in_table p t rs) e
    where
      go : (b : Bool) → (list_any (λ r. eqb r.table t && p r.extent) rs ≡ true → list_any p (extents_in t rs) ≡ true) → ((b && p r.extent) || list_any (λ r. eqb r.table t && p r.extent) rs) ≡ true → list_any p (cond b (r.extent ∷ extents_in t rs) (extents_in t rs)) ≡ true
      go true rest g = here (p r.extent) rest g
        where
          here : (h : Bool) → (list_any (λ r. eqb r.table t && p r.extent) rs ≡ true → list_any p (extents_in t rs) ≡ true) → (h || list_any (λ r. eqb r.table t && p r.extent) rs) ≡ true → (h || list_any p (extents_in t rs)) ≡ true
          here true rest g = refl
          here false rest g = rest g
      go false rest g = rest g

  -- each key that was read is covered
  pub covers_reads : (rs : List (Reading A)) (t : ℕ) (k : Value A) → reads_key rs t k ≡ true → covers rs t k ≡ true
  covers_reads rs t k e = covers_extents k (distinct (extents_in t rs)) (distinct_any (has_key k) (extents_in t rs) (read_in_table (has_key k) t rs e))

  -- and each reference
  pub covers_values : (rs : List (Reading A)) (t j : ℕ) (k : Value A) → reads_value rs t j k ≡ true → covers_value rs t j k ≡ true
  covers_values rs t j k e = or_right (covers_whole (distinct (extents_in t rs))) (list_any (has_reference j k) (distinct (extents_in t rs))) (distinct_any (has_reference j k) (extents_in t rs) (read_in_table (has_reference j k) t rs e))

-- The cover is a function of the set of what was read.
use Rattle.std.proofs.Common.{◌≡◌, refl, sym, ap, ◌∙◌, ℕ, suc, ◌+◌, ◌≤◌, Bool, true, false, true≢false, cond, not, ◌&&◌, ◌||◌, List, [], ◌∷◌, length, eqb, nat_lt, arith}
use Rattle.std.proofs.lemmas.Bool.{eq-eqb, or_left, or_right, and_from}
use Rattle.std.proofs.lemmas.Cmp.{tied_itself}
use Rattle.std.specs.Cmp.{both_ways}
use Rattle.std.specs.Ordering.{is_eq, is_le, is_ge}
use Rattle.std.specs.List.{filter, list_any}
use Rattle.value.specs.declared.value.Value.{Value}
use Rattle.value.specs.Order.{value_cmp, value_cmp-total}
use Rattle.value.proofs.Basics.{any-weaker}
use Rattle.schema.specs.Plain.{same}
use Rattle.statement.specs.declared.reading.End.{End}
use Rattle.statement.specs.declared.reading.End.TheVariants.{Open, Closed, Without}
use Rattle.statement.specs.declared.reading.Extent.{Extent}
use Rattle.statement.specs.declared.reading.Extent.TheVariants.{Whole, One, Range, Referencing}
use Rattle.statement.specs.declared.reading.Reading.{Reading}
use Rattle.statement.specs.Cover.{has_key, has_reference, same_end, same_extent, distinct, extents_in, is_whole, keys_of, ranges_of, references_read, has_many_keys, has_many_ranges, has_many_references, covers_whole, among, covers_key, covers_reference, covers, covers_value}
use Rattle.statement.specs.Laws.{same_reading, HasSameReadings}
use Rattle.statement.proofs.CoverLemmas.{distinct_any, same_extent_is}

module _ {A : Type 0} where
  same_itself : (v : Value A) → same v v ≡ true
  same_itself v = ap is_eq (tied_itself value_cmp-total v)

  same_end_itself : (e : End A) → same_end e e ≡ true
  same_end_itself Open = refl
  same_end_itself (Closed v) = same_itself v
  same_end_itself (Without v) = same_itself v

  same_extent_itself : (e : Extent A) → same_extent e e ≡ true
  same_extent_itself Whole = refl
  same_extent_itself (One v) = same_itself v
  same_extent_itself (Range a b) = and_from (same_end a a) (same_end b b) (same_end_itself a) (same_end_itself b)
  same_extent_itself (Referencing j v) = and_from (eqb j j) (same v v) (eq-eqb j j refl) (same_itself v)

  -- ---- extents that have the same members

  -- an extent is among these
  abbrev has : Extent A → List (Extent A) → Bool
  has e es = list_any (same_extent e) es

  abbrev Within : List (Extent A) → List (Extent A) → Type 0
  Within xs ys = (e : Extent A) → has e xs ≡ true → has e ys ≡ true

  -- a member passes the test
  any_within : (p : Extent A → Bool) (xs ys : List (Extent A)) → Within xs ys → list_any p xs ≡ true → list_any p ys ≡ true
  any_within p [] ys w e = absurd (true≢false (sym e))
  any_within p (x ∷ xs) ys w e = go (p x) refl e (any_within p xs ys (λ y h. w y (or_right (same_extent y x) (has y xs) h)))
    where
      go : (b : Bool) → p x ≡ b → (b || list_any p xs) ≡ true → (list_any p xs ≡ true → list_any p ys ≡ true) → list_any p ys ≡ true
      go true q g rest = any-weaker (same_extent x) p (λ y h. ap p (sym (same_extent_is x y h)) ∙ q) ys (w x (or_left (same_extent x x) (has x xs) (same_extent_itself x)))
      go false q g rest = rest g

  -- ---- members that pass a test

  in_filter : (p : Extent A → Bool) (e : Extent A) (xs : List (Extent A)) → has e (filter p xs) ≡ true → (p e ≡ true) × (has e xs ≡ true)
  in_filter p e [] h = absurd (true≢false (sym h))
  in_filter p e (x ∷ xs) h = go (p x) refl (in_filter p e xs) h
    where
      later : (p e ≡ true) × (has e xs ≡ true) → (p e ≡ true) × ((same_extent e x || has e xs) ≡ true)
      later w = (w.0, or_right (same_extent e x) (has e xs) w.1)

      here : p x ≡ true → (b : Bool) → same_extent e x ≡ b → (b || has e (filter p xs)) ≡ true → (has e (filter p xs) ≡ true → (p e ≡ true) × (has e xs ≡ true)) → (p e ≡ true) × ((same_extent e x || has e xs) ≡ true)
      here q true s g rest = (ap p (same_extent_is e x s) ∙ q, or_left (same_extent e x) (has e xs) s)
      here q false s g rest = later (rest g)

      go : (b : Bool) → p x ≡ b → (has e (filter p xs) ≡ true → (p e ≡ true) × (has e xs ≡ true)) → has e (cond b (x ∷ filter p xs) (filter p xs)) ≡ true → (p e ≡ true) × ((same_extent e x || has e xs) ≡ true)
      go true q rest g = here q (same_extent e x) refl g rest
      go false q rest g = later (rest g)

  to_filter : (p : Extent A → Bool) (e : Extent A) (xs : List (Extent A)) → p e ≡ true → has e xs ≡ true → has e (filter p xs) ≡ true
  to_filter p e [] q h = h
  to_filter p e (x ∷ xs) q h = go (same_extent e x) refl h (to_filter p e xs q)
    where
      kept : (b : Bool) → p x ≡ b → same_extent e x ≡ true → has e (cond b (x ∷ filter p xs) (filter p xs)) ≡ true
      kept true r s = or_left (same_extent e x) (has e (filter p xs)) s
      kept false r s = absurd (true≢false (sym q ∙ ap p (same_extent_is e x s) ∙ r))

      later : (b : Bool) → has e (filter p xs) ≡ true → has e (cond b (x ∷ filter p xs) (filter p xs)) ≡ true
      later true r = or_right (same_extent e x) (has e (filter p xs)) r
      later false r = r

      go : (b : Bool) → same_extent e x ≡ b → (b || has e xs) ≡ true → (has e xs ≡ true → has e (filter p xs) ≡ true) → has e (filter p (x ∷ xs)) ≡ true
      go true s g rest = kept (p x) refl s
      go false s g rest = later (p x) (rest g)

  -- ---- members are counted once

  abbrev IsEachOnce : List (Extent A) → Type 0
  IsEachOnce [] = Unit {0}
  IsEachOnce (x ∷ xs) = (has x xs ≡ false) × IsEachOnce xs

  at_most : (p : Extent A → Bool) (xs : List (Extent A)) → length (filter p xs) ≤ length xs
  at_most p [] = omega arith
  at_most p (x ∷ xs) = go (p x) (at_most p xs)
    where
      go : (b : Bool) → length (filter p xs) ≤ length xs → length (cond b (x ∷ filter p xs) (filter p xs)) ≤ suc (length xs)
      go true h = omega (arith, h)
      go false h = omega (arith, h)

  -- without a member there are fewer
  one_less : (x : Extent A) (ys : List (Extent A)) → has x ys ≡ true → suc (length (filter (λ y. not (same_extent x y)) ys)) ≤ length ys
  one_less x [] h = absurd (true≢false (sym h))
  one_less x (y ∷ ys) h = go (same_extent x y) h (one_less x ys) (at_most (λ z. not (same_extent x z)) ys)
    where
      go : (b : Bool) → (b || has x ys) ≡ true → (has x ys ≡ true → suc (length (filter (λ z. not (same_extent x z)) ys)) ≤ length ys) → length (filter (λ z. not (same_extent x z)) ys) ≤ length ys
          → suc (length (cond (not b) (y ∷ filter (λ z. not (same_extent x z)) ys) (filter (λ z. not (same_extent x z)) ys))) ≤ suc (length ys)
      go true g rest m = omega (arith, m)
      go false g rest m = let r = rest g in omega (arith, r)

  count_within : (xs ys : List (Extent A)) → IsEachOnce xs → Within xs ys → length xs ≤ length ys
  count_within [] ys o w = omega arith
  count_within (x ∷ xs) ys o w =
      let rest = count_within xs (filter (λ y. not (same_extent x y)) ys) o.1 without in
      let less = one_less x ys (w x (or_left (same_extent x x) (has x xs) (same_extent_itself x))) in
      omega (arith, rest, less)
    where
      other : (e : Extent A) → has e xs ≡ true → (b : Bool) → same_extent x e ≡ b → not (same_extent x e) ≡ true
      other e h false s = ap not s
      other e h true s = absurd (true≢false (sym (ap (λ z. has z xs) (same_extent_is x e s) ∙ h) ∙ o.0))

      without : Within xs (filter (λ y. not (same_extent x y)) ys)
      without e h = to_filter (λ y. not (same_extent x y)) e ys (other e h (same_extent x e) refl) (w e (or_right (same_extent e x) (has e xs) h))

  once-filter : (p : Extent A → Bool) (xs : List (Extent A)) → IsEachOnce xs → IsEachOnce (filter p xs)
  once-filter p [] o = tt
  once-filter p (x ∷ xs) o = go (p x) (once-filter p xs o.1)
    where
      absent : (b : Bool) → has x (filter p xs) ≡ b → b ≡ false
      absent false e = refl
      absent true e = absurd (true≢false (sym (in_filter p x xs e).1 ∙ o.0))

      go : (b : Bool) → IsEachOnce (filter p xs) → IsEachOnce (cond b (x ∷ filter p xs) (filter p xs))
      go true rest = (absent (has x (filter p xs)) refl, rest)
      go false rest = rest

  any-distinct : (p : Extent A → Bool) (es : List (Extent A)) → list_any p (distinct es) ≡ list_any p es
  any-distinct p es = both_ways (list_any p (distinct es)) (list_any p es) (back es) (distinct_any p es)
    where
      back : (xs : List (Extent A)) → list_any p (distinct xs) ≡ true → list_any p xs ≡ true
      back [] h = h
      back (x ∷ xs) h = go (has x xs) h (back xs)
        where
          here : (a : Bool) → (a || list_any p (distinct xs)) ≡ true → (list_any p (distinct xs) ≡ true → list_any p xs ≡ true) → (a || list_any p xs) ≡ true
          here true g rest = refl
          here false g rest = rest g

          go : (b : Bool) → list_any p (cond b (distinct xs) (x ∷ distinct xs)) ≡ true → (list_any p (distinct xs) ≡ true → list_any p xs ≡ true) → (p x || list_any p xs) ≡ true
          go true g rest = or_right (p x) (list_any p xs) (rest g)
          go false g rest = here (p x) g rest

  once-distinct : (es : List (Extent A)) → IsEachOnce (distinct es)
  once-distinct [] = tt
  once-distinct (x ∷ es) = go (has x es) refl (once-distinct es)
    where
      go : (b : Bool) → has x es ≡ b → IsEachOnce (distinct es) → IsEachOnce (cond b (distinct es) (x ∷ distinct es))
      go true e rest = rest
      go false e rest = (any-distinct (same_extent x) es ∙ e, rest)

  -- ---- the kinds as tests

  abbrev is_key : Extent A → Bool
  is_key (One v) = true
  is_key _ = false

  abbrev is_range : Extent A → Bool
  is_range (Range a b) = true
  is_range _ = false

  abbrev is_referencing : Extent A → Bool
  is_referencing (Referencing j v) = true
  is_referencing _ = false

  -- a test of the key
  abbrev of_key : (Value A → Bool) → Extent A → Bool
  of_key p (One v) = p v
  of_key p _ = false

  count-keys : (es : List (Extent A)) → length (keys_of es) ≡ length (filter is_key es)
  count-keys [] = refl
  count-keys (Whole ∷ es) = count-keys es
  count-keys (One v ∷ es) = ap suc (count-keys es)
  count-keys (Range a b ∷ es) = count-keys es
  count-keys (Referencing j v ∷ es) = count-keys es

  count-ranges : (es : List (Extent A)) → length (ranges_of es) ≡ length (filter is_range es)
  count-ranges [] = refl
  count-ranges (Whole ∷ es) = count-ranges es
  count-ranges (One v ∷ es) = count-ranges es
  count-ranges (Range a b ∷ es) = ap suc (count-ranges es)
  count-ranges (Referencing j v ∷ es) = count-ranges es

  count-references : (es : List (Extent A)) → length (references_read es) ≡ length (filter is_referencing es)
  count-references [] = refl
  count-references (Whole ∷ es) = count-references es
  count-references (One v ∷ es) = count-references es
  count-references (Range a b ∷ es) = count-references es
  count-references (Referencing j v ∷ es) = ap suc (count-references es)

  any-keys : (p : Value A → Bool) (es : List (Extent A)) → list_any p (keys_of es) ≡ list_any (of_key p) es
  any-keys p [] = refl
  any-keys p (Whole ∷ es) = any-keys p es
  any-keys p (One v ∷ es) = ap (λ b. p v || b) (any-keys p es)
  any-keys p (Range a b ∷ es) = any-keys p es
  any-keys p (Referencing j v ∷ es) = any-keys p es

  any-ranges : (p : Extent A → Bool) (es : List (Extent A)) → list_any p (ranges_of es) ≡ list_any (λ e. is_range e && p e) es
  any-ranges p [] = refl
  any-ranges p (Whole ∷ es) = any-ranges p es
  any-ranges p (One v ∷ es) = any-ranges p es
  any-ranges p (Range a b ∷ es) = ap (λ x. p (Range a b) || x) (any-ranges p es)
  any-ranges p (Referencing j v ∷ es) = any-ranges p es

  -- ---- the cover of extents that have the same members, each once

  record Alike (xs ys : List (Extent A)) : Type 0 where
    there : Within xs ys
    back : Within ys xs
    once : IsEachOnce xs
    once_too : IsEachOnce ys

  any_alike : (p : Extent A → Bool) (xs ys : List (Extent A)) → Alike xs ys → list_any p xs ≡ list_any p ys
  any_alike p xs ys a = both_ways (list_any p xs) (list_any p ys) (any_within p xs ys a.there) (any_within p ys xs a.back)

  count_alike : (p : Extent A → Bool) (xs ys : List (Extent A)) → Alike xs ys → length (filter p xs) ≡ length (filter p ys)
  count_alike p xs ys a = between (length (filter p xs)) (length (filter p ys))
      (count_within (filter p xs) (filter p ys) (once-filter p xs a.once) (within xs ys a.there))
      (count_within (filter p ys) (filter p xs) (once-filter p ys a.once_too) (within ys xs a.back))
    where
      within : (us vs : List (Extent A)) → Within us vs → Within (filter p us) (filter p vs)
      within us vs w e h = let i = in_filter p e us h in to_filter p e vs i.0 (w e i.1)

      between : (m n : ℕ) → m ≤ n → n ≤ m → m ≡ n
      between m n h g = omega (arith, h, g)

  keys_alike : (xs ys : List (Extent A)) → Alike xs ys → length (keys_of xs) ≡ length (keys_of ys)
  keys_alike xs ys a = count-keys xs ∙ count_alike is_key xs ys a ∙ sym (count-keys ys)

  whole_alike : (xs ys : List (Extent A)) → Alike xs ys → covers_whole xs ≡ covers_whole ys
  whole_alike xs ys a =
      ap (λ b. b || has_many_ranges xs || has_many_references xs) (any_alike is_whole xs ys a)
      ∙ ap (λ b. list_any is_whole ys || b || has_many_references xs) (ap (λ n. nat_lt 4 (n + cond (has_many_keys (keys_of xs)) 1 0)) (count-ranges xs ∙ count_alike is_range xs ys a ∙ sym (count-ranges ys)) ∙ ap (λ n. nat_lt 4 (length (ranges_of ys) + cond (nat_lt 8 n) 1 0)) (keys_alike xs ys a))
      ∙ ap (λ b. list_any is_whole ys || has_many_ranges ys || b) (ap (nat_lt 8) (count-references xs ∙ count_alike is_referencing xs ys a ∙ sym (count-references ys)))

  among_alike : (xs ys : List (Extent A)) (k : Value A) → Alike xs ys → among (keys_of xs) k ≡ among (keys_of ys) k
  among_alike xs ys k a =
      ap (λ n. cond (nat_lt 8 n) (list_any (λ v. is_le (value_cmp v k)) (keys_of xs) && list_any (λ v. is_ge (value_cmp v k)) (keys_of xs)) (list_any (λ v. same v k) (keys_of xs))) (keys_alike xs ys a)
      ∙ ap (λ b. cond (has_many_keys (keys_of ys)) (b && list_any (λ v. is_ge (value_cmp v k)) (keys_of xs)) (list_any (λ v. same v k) (keys_of xs))) (one (λ v. is_le (value_cmp v k)))
      ∙ ap (λ b. cond (has_many_keys (keys_of ys)) (list_any (λ v. is_le (value_cmp v k)) (keys_of ys) && b) (list_any (λ v. same v k) (keys_of xs))) (one (λ v. is_ge (value_cmp v k)))
      ∙ ap (λ b. cond (has_many_keys (keys_of ys)) (list_any (λ v. is_le (value_cmp v k)) (keys_of ys) && list_any (λ v. is_ge (value_cmp v k)) (keys_of ys)) b) (one (λ v. same v k))
    where
      one : (p : Value A → Bool) → list_any p (keys_of xs) ≡ list_any p (keys_of ys)
      one p = any-keys p xs ∙ any_alike (of_key p) xs ys a ∙ sym (any-keys p ys)

  key_alike : (xs ys : List (Extent A)) (k : Value A) → Alike xs ys → covers_key xs k ≡ covers_key ys k
  key_alike xs ys k a =
      ap (λ b. b || list_any (has_key k) (ranges_of xs) || among (keys_of xs) k) (whole_alike xs ys a)
      ∙ ap (λ b. covers_whole ys || b || among (keys_of xs) k) (any-ranges (has_key k) xs ∙ any_alike (λ e. is_range e && has_key k e) xs ys a ∙ sym (any-ranges (has_key k) ys))
      ∙ ap (λ b. covers_whole ys || list_any (has_key k) (ranges_of ys) || b) (among_alike xs ys k a)

  reference_alike : (xs ys : List (Extent A)) (j : ℕ) (k : Value A) → Alike xs ys → covers_reference xs j k ≡ covers_reference ys j k
  reference_alike xs ys j k a =
      ap (λ b. b || list_any (has_reference j k) xs) (whole_alike xs ys a)
      ∙ ap (λ b. covers_whole ys || b) (any_alike (has_reference j k) xs ys a)

  -- ---- readings

  has-extents_in : (t : ℕ) (e : Extent A) (rs : List (Reading A)) → has e (extents_in t rs) ≡ list_any (same_reading (record { table = t; extent = e })) rs
  has-extents_in t e [] = refl
  has-extents_in t e (r ∷ rs) = go (eqb r.table t) (has-extents_in t e rs)
    where
      go : (b : Bool) → has e (extents_in t rs) ≡ list_any (same_reading (record { table = t; extent = e })) rs
          → has e (cond b (r.extent ∷ extents_in t rs) (extents_in t rs)) ≡ ((b && same_extent e r.extent) || list_any (same_reading (record { table = t; extent = e })) rs)
      go true h = ap (λ b. same_extent e r.extent || b) h
      go false h = h

  alike : (rs qs : List (Reading A)) → HasSameReadings rs qs → (t : ℕ) → Alike (distinct (extents_in t rs)) (distinct (extents_in t qs))
  alike rs qs s t = record {
    there = λ e h. sym (same_members e) ∙ h;
    back = λ e h. same_members e ∙ h;
    once = once-distinct (extents_in t rs);
    once_too = once-distinct (extents_in t qs);
  }
    where
      same_members : (e : Extent A) → has e (distinct (extents_in t rs)) ≡ has e (distinct (extents_in t qs))
      same_members e =
          any-distinct (same_extent e) (extents_in t rs) ∙ has-extents_in t e rs ∙ s (record { table = t; extent = e })
          ∙ sym (has-extents_in t e qs) ∙ sym (any-distinct (same_extent e) (extents_in t qs))

  pub covers_by_set : (rs qs : List (Reading A)) → HasSameReadings rs qs → (t : ℕ) (k : Value A) → covers rs t k ≡ covers qs t k
  covers_by_set rs qs s t k = key_alike (distinct (extents_in t rs)) (distinct (extents_in t qs)) k (alike rs qs s t)

  pub covers_value_by_set : (rs qs : List (Reading A)) → HasSameReadings rs qs → (t j : ℕ) (k : Value A) → covers_value rs t j k ≡ covers_value qs t j k
  covers_value_by_set rs qs s t j k = reference_alike (distinct (extents_in t rs)) (distinct (extents_in t qs)) j k (alike rs qs s t)

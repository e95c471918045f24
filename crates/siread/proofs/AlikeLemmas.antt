-- Readings that cover the same, also with more read after them.
use Rattle.std.proofs.Common.{◌≡◌, refl, sym, ap, ◌∙◌, ℕ, ◌+◌, suc, Bool, true, false, true≢false, cond, ◌&&◌, ◌||◌, ◌⊎◌, inl, inr, List, [], ◌∷◌, ◌++◌, length, take, drop, eqb, ltb, arith, zero, append_assoc, append-nil}
use Rattle.std.proofs.Math.Bool.{or_comm}
use Rattle.std.proofs.Math.Seq.{take-nil}
use Rattle.std.proofs.lemmas.Bool.{eqb-true, eq-eqb, or_parts, or_cases, and_parts, or_left, or_right, and_from}
use Rattle.std.proofs.lemmas.Bool.Decides.{nat_tests}
use Rattle.std.proofs.lemmas.List.Folds.{list_any-append}
use Rattle.std.specs.List.{list_any}
use Rattle.std.specs.declared.cmp.Ordering.{Ordering}
use Rattle.std.specs.declared.cmp.Ordering.TheVariants.{Less, Equal, Greater}
use Rattle.std.specs.Ordering.{is_le, is_ge, ordering_reverse}
use Rattle.value.specs.declared.value.Value.{Value}
use Rattle.value.specs.Order.{value_cmp, value_cmp-total, value_cmp-exact}
use Rattle.value.proofs.Basics.{any-weaker}
use Rattle.schema.specs.Plain.{same}
use Rattle.statement.specs.declared.reading.Extent.{Extent}
use Rattle.statement.specs.declared.reading.Extent.TheVariants.{Whole, One, Range, Referencing}
use Rattle.statement.specs.declared.reading.Reading.{Reading}
use Rattle.statement.specs.Cover.{has_key, has_reference, same_extent, distinct, extents_in, is_whole, keys_of, ranges_of, references_read, has_many_keys, has_many_ranges, has_many_references, covers_whole, among, covers_key, covers_reference, covers, covers_value}
use Rattle.statement.specs.Laws.{same_reading, HasSameReadings}
use Rattle.statement.proofs.CoverLemmas.{same_extent_is}
use Rattle.statement.proofs.CoverSet.{covers_by_set, covers_value_by_set}
use Rattle.siread.specs.Adding.{is_between, is_told, adds_nothing}
use Rattle.siread.specs.Extents.{is_read, read_in, IsEachOnce}
use Rattle.siread.specs.Reads.{CoverAlike}
use Rattle.siread.proofs.TallyLemmas.{once, is_found}

-- ---- tests

or_map : (a b c d : Bool) → (a ≡ true → c ≡ true) → (b ≡ true → d ≡ true) → (a || b) ≡ true → (c || d) ≡ true
or_map true b c d f g e = or_left c d (f refl)
or_map false b c d f g e = or_right c d (g e)

pub and_map : (a b c d : Bool) → (a ≡ true → c ≡ true) → (b ≡ true → d ≡ true) → (a && b) ≡ true → (c && d) ≡ true
and_map true b c d f g e = ap (λ x. x && d) (f refl) ∙ g e
and_map false b c d f g e = absurd (true≢false (sym e))

moved : (a x m : Bool) → ((a || (x || false)) || m) ≡ (x || (m || a))
moved true true m = refl
moved true false true = refl
moved true false false = refl
moved false true m = refl
moved false false true = refl
moved false false false = refl

-- what holds already where it may hold
told_or : (a b : Bool) → (a ≡ true → b ≡ true) → (a || b) ≡ b
told_or true b f = sym (f refl)
told_or false b f = refl

-- ---- counts

more_than_eight : (n : ℕ) → ltb 8 n ≡ true → ltb 8 (suc n) ≡ true
more_than_eight n e = grind (arith, nat_tests)

more_than_four : (n m : ℕ) → ltb 4 (n + m) ≡ true → ltb 4 (suc n + m) ≡ true
more_than_four n m e = grind (arith, nat_tests)

-- with one key more
ranges_and_keys : (n m : ℕ) → ltb 4 (n + cond (ltb 8 m) 1 0) ≡ true → ltb 4 (n + cond (ltb 8 (suc m)) 1 0) ≡ true
ranges_and_keys n m e = go (ltb 8 m) refl e
  where
    other : (c : Bool) → ltb 4 (n + 0) ≡ true → ltb 4 (n + cond c 1 0) ≡ true
    other true h = grind (arith, nat_tests)
    other false h = h

    go : (b : Bool) → ltb 8 m ≡ b → ltb 4 (n + cond b 1 0) ≡ true → ltb 4 (n + cond (ltb 8 (suc m)) 1 0) ≡ true
    go true many h = ap (λ c. ltb 4 (n + cond c 1 0)) (more_than_eight m many) ∙ h
    go false few h = other (ltb 8 (suc m)) h

module _ {A : Type 0} where
  -- ---- the order of values

  le_trans : (u v w : Value A) → is_le (value_cmp u v) ≡ true → is_le (value_cmp v w) ≡ true → is_le (value_cmp u w) ≡ true
  le_trans u v w h k = go (value_cmp u v) refl h
    where
      last : (o : Ordering) → value_cmp v w ≡ o → value_cmp u v ≡ Less → is_le o ≡ true → is_le (value_cmp u w) ≡ true
      last Less e l s = ap is_le (value_cmp-total.trans u v w l e)
      last Equal e l s = ap (λ x. is_le (value_cmp u x)) (sym (value_cmp-exact v w e)) ∙ ap is_le l
      last Greater e l s = absurd (true≢false (sym s))

      go : (o : Ordering) → value_cmp u v ≡ o → is_le o ≡ true → is_le (value_cmp u w) ≡ true
      go Less e s = last (value_cmp v w) refl e k
      go Equal e s = ap is_le (value_cmp-total.congr u v w e) ∙ k
      go Greater e s = absurd (true≢false (sym s))

  ge_is_le : (u v : Value A) → is_ge (value_cmp u v) ≡ is_le (value_cmp v u)
  ge_is_le u v = ap is_ge (value_cmp-total.antisymm u v) ∙ turn (value_cmp v u)
    where
      turn : (o : Ordering) → is_ge (ordering_reverse o) ≡ is_le o
      turn Less = refl
      turn Equal = refl
      turn Greater = refl

  ge_trans : (u v w : Value A) → is_ge (value_cmp u v) ≡ true → is_ge (value_cmp v w) ≡ true → is_ge (value_cmp u w) ≡ true
  ge_trans u v w h k = ge_is_le u w ∙ le_trans w v u (sym (ge_is_le v w) ∙ k) (sym (ge_is_le u v) ∙ h)

  -- ---- what adds nothing still adds nothing later

  whole-more : (m : Extent A) (es : List (Extent A)) → covers_whole es ≡ true → covers_whole (m ∷ es) ≡ true
  whole-more Whole es h = refl
  whole-more (One v) es h =
      or_map (list_any is_whole es || has_many_ranges es) (has_many_references es) (list_any is_whole es || has_many_ranges (One v ∷ es)) (has_many_references es)
      (or_map (list_any is_whole es) (has_many_ranges es) (list_any is_whole es) (has_many_ranges (One v ∷ es)) (λ e. e) (ranges_and_keys (length (ranges_of es)) (length (keys_of es)))) (λ e. e) h
  whole-more (Range a b) es h =
      or_map (list_any is_whole es || has_many_ranges es) (has_many_references es) (list_any is_whole es || has_many_ranges (Range a b ∷ es)) (has_many_references es)
      (or_map (list_any is_whole es) (has_many_ranges es) (list_any is_whole es) (has_many_ranges (Range a b ∷ es)) (λ e. e) (more_than_four (length (ranges_of es)) (cond (has_many_keys (keys_of es)) 1 0))) (λ e. e) h
  whole-more (Referencing j v) es h =
      or_map (list_any is_whole es || has_many_ranges es) (has_many_references es) (list_any is_whole es || has_many_ranges es) (has_many_references (Referencing j v ∷ es))
      (λ e. e) (more_than_eight (length (references_read es))) h

  between-key : (v : Value A) (keys : List (Value A)) (e : Extent A) → is_between keys e ≡ true → is_between (v ∷ keys) e ≡ true
  between-key v keys (One w) h =
      and_map (has_many_keys keys && list_any (λ x. is_le (value_cmp x w)) keys) (list_any (λ x. is_ge (value_cmp x w)) keys)
      (has_many_keys (v ∷ keys) && list_any (λ x. is_le (value_cmp x w)) (v ∷ keys)) (list_any (λ x. is_ge (value_cmp x w)) (v ∷ keys))
      (and_map (has_many_keys keys) (list_any (λ x. is_le (value_cmp x w)) keys) (has_many_keys (v ∷ keys)) (list_any (λ x. is_le (value_cmp x w)) (v ∷ keys)) (more_than_eight (length keys)) (or_right (is_le (value_cmp v w)) _))
      (or_right (is_ge (value_cmp v w)) _) h
  between-key v keys Whole h = h
  between-key v keys (Range a b) h = h
  between-key v keys (Referencing j w) h = h

  between-more : (m : Extent A) (es : List (Extent A)) (e : Extent A) → is_between (keys_of es) e ≡ true → is_between (keys_of (m ∷ es)) e ≡ true
  between-more Whole es e h = h
  between-more (One v) es e h = between-key v (keys_of es) e h
  between-more (Range a b) es e h = h
  between-more (Referencing j v) es e h = h

  told-more : (m : Extent A) (es : List (Extent A)) (e : Extent A) → is_told es e ≡ true → is_told (m ∷ es) e ≡ true
  told-more m es e h =
      or_map (covers_whole es || list_any (same_extent e) es) (is_between (keys_of es) e) (covers_whole (m ∷ es) || list_any (same_extent e) (m ∷ es)) (is_between (keys_of (m ∷ es)) e)
      (or_map (covers_whole es) (list_any (same_extent e) es) (covers_whole (m ∷ es)) (list_any (same_extent e) (m ∷ es)) (whole-more m es) (or_right (same_extent e m) _))
      (between-more m es e) h

  -- with more read
  nothing-more : (more rs : List (Reading A)) (r : Reading A) → adds_nothing rs r ≡ true → adds_nothing (more ++ rs) r ≡ true
  nothing-more [] rs r h = h
  nothing-more (m ∷ more) rs r h = go (eqb m.table r.table) (nothing-more more rs r h)
    where
      es : List (Extent A)
      es = extents_in r.table (more ++ rs)

      kept : (c : Bool) → is_told (distinct es) r.extent ≡ true → is_told (cond c (distinct es) (m.extent ∷ distinct es)) r.extent ≡ true
      kept true g = g
      kept false g = told-more m.extent (distinct es) r.extent g

      go : (b : Bool) → is_told (distinct es) r.extent ≡ true → is_told (distinct (cond b (m.extent ∷ es) es)) r.extent ≡ true
      go true g = kept (list_any (same_extent m.extent) es) g
      go false g = g

  -- ---- what adds nothing changes no cover

  -- a key between two of many
  among-between : (v : Value A) (keys : List (Value A)) (k : Value A) → is_between keys (One v) ≡ true → among (v ∷ keys) k ≡ among keys k
  among-between v keys k h =
      ap (λ b. cond b ((is_le (value_cmp v k) || below) && (is_ge (value_cmp v k) || above)) (same v k || list_any (λ w. same w k) keys)) (more_than_eight (length keys) many)
      ∙ ap (λ b. b && (is_ge (value_cmp v k) || above)) (told_or (is_le (value_cmp v k)) below (λ e. any-weaker (λ w. is_le (value_cmp w v)) (λ w. is_le (value_cmp w k)) (λ w l. le_trans w v k l e) keys least))
      ∙ ap (λ b. below && b) (told_or (is_ge (value_cmp v k)) above (λ e. any-weaker (λ w. is_ge (value_cmp w v)) (λ w. is_ge (value_cmp w k)) (λ w l. ge_trans w v k l e) keys greatest))
      ∙ sym (ap (λ b. cond b (below && above) (list_any (λ w. same w k) keys)) many)
    where
      below : Bool
      below = list_any (λ w. is_le (value_cmp w k)) keys

      above : Bool
      above = list_any (λ w. is_ge (value_cmp w k)) keys

      parts : ((has_many_keys keys && list_any (λ w. is_le (value_cmp w v)) keys) ≡ true) × (list_any (λ w. is_ge (value_cmp w v)) keys ≡ true)
      parts = and_parts (has_many_keys keys && list_any (λ w. is_le (value_cmp w v)) keys) (list_any (λ w. is_ge (value_cmp w v)) keys) h

      greatest : list_any (λ w. is_ge (value_cmp w v)) keys ≡ true
      greatest = parts.1

      many : has_many_keys keys ≡ true
      many = (and_parts (has_many_keys keys) (list_any (λ w. is_le (value_cmp w v)) keys) parts.0).0

      least : list_any (λ w. is_le (value_cmp w v)) keys ≡ true
      least = (and_parts (has_many_keys keys) (list_any (λ w. is_le (value_cmp w v)) keys) parts.0).1

  whole-between : (v : Value A) (es : List (Extent A)) → is_between (keys_of es) (One v) ≡ true → covers_whole (One v ∷ es) ≡ covers_whole es
  whole-between v es h =
      ap (λ b. list_any is_whole es || ltb 4 (length (ranges_of es) + cond b 1 0) || has_many_references es) (more_than_eight (length (keys_of es)) many ∙ sym many)
    where
      many : has_many_keys (keys_of es) ≡ true
      many = (and_parts (has_many_keys (keys_of es)) _ (and_parts (has_many_keys (keys_of es) && list_any (λ w. is_le (value_cmp w v)) (keys_of es)) _ h).0).0

  -- of a table that is covered whole
  key-whole : (m : Extent A) (es : List (Extent A)) (k : Value A) → covers_whole es ≡ true → covers_key (m ∷ es) k ≡ covers_key es k
  key-whole m es k h =
      ap (λ b. b || list_any (has_key k) (ranges_of (m ∷ es)) || among (keys_of (m ∷ es)) k) (whole-more m es h)
      ∙ sym (ap (λ b. b || list_any (has_key k) (ranges_of es) || among (keys_of es) k) h)

  key-between : (m : Extent A) (es : List (Extent A)) (k : Value A) → is_between (keys_of es) m ≡ true → covers_key (m ∷ es) k ≡ covers_key es k
  key-between (One v) es k h =
      ap (λ b. b || list_any (has_key k) (ranges_of es) || among (v ∷ keys_of es) k) (whole-between v es h)
      ∙ ap (λ b. covers_whole es || list_any (has_key k) (ranges_of es) || b) (among-between v (keys_of es) k h)
  key-between Whole es k h = absurd (true≢false (sym h))
  key-between (Range a b) es k h = absurd (true≢false (sym h))
  key-between (Referencing j v) es k h = absurd (true≢false (sym h))

  reference-whole : (m : Extent A) (es : List (Extent A)) (j : ℕ) (k : Value A) → covers_whole es ≡ true → covers_reference (m ∷ es) j k ≡ covers_reference es j k
  reference-whole m es j k h =
      ap (λ b. b || list_any (has_reference j k) (m ∷ es)) (whole-more m es h)
      ∙ sym (ap (λ b. b || list_any (has_reference j k) es) h)

  reference-between : (m : Extent A) (es : List (Extent A)) (j : ℕ) (k : Value A) → is_between (keys_of es) m ≡ true → covers_reference (m ∷ es) j k ≡ covers_reference es j k
  reference-between (One v) es j k h = ap (λ b. b || list_any (has_reference j k) es) (whole-between v es h)
  reference-between Whole es j k h = absurd (true≢false (sym h))
  reference-between (Range a b) es j k h = absurd (true≢false (sym h))
  reference-between (Referencing i v) es j k h = absurd (true≢false (sym h))

  -- an extent that wasn't read, and adds nothing
  told-otherwise : (es : List (Extent A)) (e : Extent A) → list_any (same_extent e) es ≡ false → is_told (distinct es) e ≡ true → (covers_whole (distinct es) ≡ true) ⊎ (is_between (keys_of (distinct es)) e ≡ true)
  told-otherwise es e absent h = go (or_cases (covers_whole (distinct es) || list_any (same_extent e) (distinct es)) (is_between (keys_of (distinct es)) e) h)
    where
      here : (covers_whole (distinct es) ≡ true) ⊎ (list_any (same_extent e) (distinct es) ≡ true) → (covers_whole (distinct es) ≡ true) ⊎ (is_between (keys_of (distinct es)) e ≡ true)
      here (inl w) = inl w
      here (inr s) = absurd (true≢false (sym s ∙ sym (once (same_extent e) es) ∙ absent))

      go : ((covers_whole (distinct es) || list_any (same_extent e) (distinct es)) ≡ true) ⊎ (is_between (keys_of (distinct es)) e ≡ true) → (covers_whole (distinct es) ≡ true) ⊎ (is_between (keys_of (distinct es)) e ≡ true)
      go (inl q) = here (or_cases (covers_whole (distinct es)) (list_any (same_extent e) (distinct es)) q)
      go (inr q) = inr q

  key-told : (es : List (Extent A)) (e : Extent A) (k : Value A) → is_told (distinct es) e ≡ true → covers_key (distinct (e ∷ es)) k ≡ covers_key (distinct es) k
  key-told es e k h = go (list_any (same_extent e) es) refl
    where
      by : (covers_whole (distinct es) ≡ true) ⊎ (is_between (keys_of (distinct es)) e ≡ true) → covers_key (e ∷ distinct es) k ≡ covers_key (distinct es) k
      by (inl w) = key-whole e (distinct es) k w
      by (inr b) = key-between e (distinct es) k b

      go : (b : Bool) → list_any (same_extent e) es ≡ b → covers_key (cond b (distinct es) (e ∷ distinct es)) k ≡ covers_key (distinct es) k
      go true q = refl
      go false q = by (told-otherwise es e q h)

  reference-told : (es : List (Extent A)) (e : Extent A) (j : ℕ) (k : Value A) → is_told (distinct es) e ≡ true → covers_reference (distinct (e ∷ es)) j k ≡ covers_reference (distinct es) j k
  reference-told es e j k h = go (list_any (same_extent e) es) refl
    where
      by : (covers_whole (distinct es) ≡ true) ⊎ (is_between (keys_of (distinct es)) e ≡ true) → covers_reference (e ∷ distinct es) j k ≡ covers_reference (distinct es) j k
      by (inl w) = reference-whole e (distinct es) j k w
      by (inr b) = reference-between e (distinct es) j k b

      go : (b : Bool) → list_any (same_extent e) es ≡ b → covers_reference (cond b (distinct es) (e ∷ distinct es)) j k ≡ covers_reference (distinct es) j k
      go true q = refl
      go false q = by (told-otherwise es e q h)

  -- ---- readings

  keys-nothing : (rs : List (Reading A)) (r : Reading A) (t : ℕ) (k : Value A) → adds_nothing rs r ≡ true → covers (r ∷ rs) t k ≡ covers rs t k
  keys-nothing rs r t k h = go (eqb r.table t) refl
    where
      go : (b : Bool) → eqb r.table t ≡ b → covers_key (distinct (cond b (r.extent ∷ extents_in t rs) (extents_in t rs))) k ≡ covers_key (distinct (extents_in t rs)) k
      go true e = key-told (extents_in t rs) r.extent k (ap (λ u. is_told (distinct (extents_in u rs)) r.extent) (sym (eqb-true r.table t e)) ∙ h)
      go false e = refl

  references-nothing : (rs : List (Reading A)) (r : Reading A) (t j : ℕ) (k : Value A) → adds_nothing rs r ≡ true → covers_value (r ∷ rs) t j k ≡ covers_value rs t j k
  references-nothing rs r t j k h = go (eqb r.table t) refl
    where
      go : (b : Bool) → eqb r.table t ≡ b → covers_reference (distinct (cond b (r.extent ∷ extents_in t rs) (extents_in t rs))) j k ≡ covers_reference (distinct (extents_in t rs)) j k
      go true e = reference-told (extents_in t rs) r.extent j k (ap (λ u. is_told (distinct (extents_in u rs)) r.extent) (sym (eqb-true r.table t e)) ∙ h)
      go false e = refl

  -- readings in another order
  turned : (rs more : List (Reading A)) → HasSameReadings (rs ++ more) (more ++ rs)
  turned rs more q =
      list_any-append (same_reading q) rs more
      ∙ or_comm (list_any (same_reading q) rs) (list_any (same_reading q) more)
      ∙ sym (list_any-append (same_reading q) more rs)

  to_front : (rs more : List (Reading A)) (r : Reading A) → HasSameReadings ((rs ++ r ∷ []) ++ more) (r ∷ (more ++ rs))
  to_front rs more r q =
      list_any-append (same_reading q) (rs ++ r ∷ []) more
      ∙ ap (λ b. b || list_any (same_reading q) more) (list_any-append (same_reading q) rs (r ∷ []))
      ∙ moved (list_any (same_reading q) rs) (same_reading q r) (list_any (same_reading q) more)
      ∙ ap (λ b. same_reading q r || b) (sym (list_any-append (same_reading q) more rs))

  -- a reading that adds nothing
  pub alike-nothing : (rs : List (Reading A)) (r : Reading A) → adds_nothing rs r ≡ true → CoverAlike rs (rs ++ r ∷ [])
  alike-nothing rs r h = record {
    keys = λ more t k.
        covers_by_set (rs ++ more) (more ++ rs) (turned rs more) t k
        ∙ sym (keys-nothing (more ++ rs) r t k (nothing-more more rs r h))
        ∙ sym (covers_by_set ((rs ++ r ∷ []) ++ more) (r ∷ (more ++ rs)) (to_front rs more r) t k);
    references = λ more t j k.
        covers_value_by_set (rs ++ more) (more ++ rs) (turned rs more) t j k
        ∙ sym (references-nothing (more ++ rs) r t j k (nothing-more more rs r h))
        ∙ sym (covers_value_by_set ((rs ++ r ∷ []) ++ more) (r ∷ (more ++ rs)) (to_front rs more r) t j k);
  }

  pub alike_itself : (rs : List (Reading A)) → CoverAlike rs rs
  alike_itself rs = record { keys = λ more t k. refl; references = λ more t j k. refl }

  pub alike_equal : (rs qs : List (Reading A)) → rs ≡ qs → CoverAlike rs qs
  alike_equal rs qs e = record { keys = λ more t k. ap (λ xs. covers (xs ++ more) t k) e; references = λ more t j k. ap (λ xs. covers_value (xs ++ more) t j k) e }

  pub alike_then : (rs qs ps : List (Reading A)) → CoverAlike rs qs → CoverAlike qs ps → CoverAlike rs ps
  alike_then rs qs ps a b = record { keys = λ more t k. a.keys more t k ∙ b.keys more t k; references = λ more t j k. a.references more t j k ∙ b.references more t j k }

  -- with the same read after them
  pub alike_more : (rs qs xs : List (Reading A)) → CoverAlike rs qs → CoverAlike (rs ++ xs) (qs ++ xs)
  alike_more rs qs xs a = record {
    keys = λ more t k. ap (λ ys. covers ys t k) (append_assoc rs xs more) ∙ a.keys (xs ++ more) t k ∙ sym (ap (λ ys. covers ys t k) (append_assoc qs xs more));
    references = λ more t j k. ap (λ ys. covers_value ys t j k) (append_assoc rs xs more) ∙ a.references (xs ++ more) t j k ∙ sym (ap (λ ys. covers_value ys t j k) (append_assoc qs xs more));
  }

  pub alike_keys : (rs qs : List (Reading A)) → CoverAlike rs qs → (t : ℕ) (k : Value A) → covers rs t k ≡ covers qs t k
  alike_keys rs qs a t k = sym (ap (λ xs. covers xs t k) (append-nil rs)) ∙ a.keys [] t k ∙ ap (λ xs. covers xs t k) (append-nil qs)

  pub alike_references : (rs qs : List (Reading A)) → CoverAlike rs qs → (t j : ℕ) (k : Value A) → covers_value rs t j k ≡ covers_value qs t j k
  alike_references rs qs a t j k = sym (ap (λ xs. covers_value xs t j k) (append-nil rs)) ∙ a.references [] t j k ∙ ap (λ xs. covers_value xs t j k) (append-nil qs)

  -- ---- each once

  same_extent-turned : (a b : Extent A) → same_extent a b ≡ true → same_extent b a ≡ true
  same_extent-turned a b e = ap (λ x. same_extent x a) (sym (same_extent_is a b e)) ∙ ap (λ x. same_extent a x) (same_extent_is a b e) ∙ e

  same_reading-turned : (r q : Reading A) → is_read r.table (same_extent r.extent) q ≡ false → is_read q.table (same_extent q.extent) r ≡ false
  same_reading-turned r q h = go (is_read q.table (same_extent q.extent) r) refl
    where
      back : is_read q.table (same_extent q.extent) r ≡ true → is_read r.table (same_extent r.extent) q ≡ true
      back e =
          let p = and_parts (eqb r.table q.table) (same_extent q.extent r.extent) e in
          and_from (eqb q.table r.table) (same_extent r.extent q.extent) (eq-eqb q.table r.table (sym (eqb-true r.table q.table p.0))) (same_extent-turned q.extent r.extent p.1)

      go : (b : Bool) → is_read q.table (same_extent q.extent) r ≡ b → b ≡ false
      go false e = refl
      go true e = absurd (true≢false (sym (back e) ∙ h))

  pub once-push : (rs : List (Reading A)) (r : Reading A) → IsEachOnce rs → list_any (is_read r.table (same_extent r.extent)) rs ≡ false → IsEachOnce (rs ++ r ∷ [])
  once-push [] r o h = (refl, tt)
  once-push (q ∷ rs) r o h =
      let p = or_parts (is_read r.table (same_extent r.extent) q) (list_any (is_read r.table (same_extent r.extent)) rs) h in
      (list_any-append (is_read q.table (same_extent q.extent)) rs (r ∷ []) ∙ ap (λ b. b || (is_read q.table (same_extent q.extent) r || false)) o.0 ∙ ap (λ b. b || false) (same_reading-turned r q p.0), once-push rs r o.1 p.1)

  -- a reading that adds something wasn't there
  pub not_there : (rs : List (Reading A)) (r : Reading A) → adds_nothing rs r ≡ false → list_any (is_read r.table (same_extent r.extent)) rs ≡ false
  not_there rs r h =
      is_found (same_extent r.extent) r.table rs
      ∙ (or_parts (covers_whole (read_in r.table rs)) (list_any (same_extent r.extent) (read_in r.table rs)) (or_parts (covers_whole (read_in r.table rs) || list_any (same_extent r.extent) (read_in r.table rs)) (is_between (keys_of (read_in r.table rs)) r.extent) h).0).1

  absent-take : (p : Reading A → Bool) (n : ℕ) (rs : List (Reading A)) → list_any p rs ≡ false → list_any p (take n rs) ≡ false
  absent-take p n [] h = ap (list_any p) (take-nil n)
  absent-take p zero (r ∷ rs) h = refl
  absent-take p (suc n) (r ∷ rs) h = let q = or_parts (p r) (list_any p rs) h in ap (λ b. b || list_any p (take n rs)) q.0 ∙ absent-take p n rs q.1

  pub once-take : (n : ℕ) (rs : List (Reading A)) → IsEachOnce rs → IsEachOnce (take n rs)
  once-take zero rs o = tt
  once-take (suc n) [] o = tt
  once-take (suc n) (r ∷ rs) o = (absent-take (is_read r.table (same_extent r.extent)) n rs o.0, once-take n rs o.1)

  pub once-drop : (n : ℕ) (rs : List (Reading A)) → IsEachOnce rs → IsEachOnce (drop n rs)
  once-drop zero rs o = o
  once-drop (suc n) [] o = tt
  once-drop (suc n) (r ∷ rs) o = once-drop n rs o.1

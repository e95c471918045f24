-- How many readings are kept of each table.
use Rattle.std.proofs.Common.{◌≡◌, refl, sym, ap, subst, ◌∙◌, ℕ, ◌+◌, ◌<◌, ◌≤◌, suc, Bool, true, false, true≢false, cond, not, ◌&&◌, ◌||◌, List, [], ◌∷◌, ◌++◌, length, take, drop, eqb, ltb, arith}
use Rattle.std.proofs.lemmas.Bool.{eqb-true, ltb-false, or_parts, and_parts, or_left, or_right, and_from}
use Rattle.std.proofs.lemmas.List.{take-append-drop}
use Rattle.std.proofs.lemmas.List.Folds.{list_any-append}
use Rattle.std.proofs.lemmas.List.Sums.{sum_by-append}
use Rattle.std.specs.Prelude.{count_by}
use Rattle.std.specs.List.{list_any, position_or_len}
use Rattle.std.specs.declared.cmp.Ordering.{Ordering}
use Rattle.std.specs.declared.cmp.Ordering.TheVariants.{Less, Equal, Greater}
use Rattle.std.specs.Ordering.{is_lt, is_gt, is_eq, ordering_reverse}
use Rattle.value.specs.declared.value.Value.{Value}
use Rattle.value.specs.Order.{value_cmp, value_cmp-total}
use Rattle.schema.specs.Plain.{same}
use Rattle.statement.specs.declared.reading.Extent.{Extent}
use Rattle.statement.specs.declared.reading.Extent.TheVariants.{Whole, One, Range, Referencing}
use Rattle.statement.specs.declared.reading.Reading.{Reading}
use Rattle.statement.specs.Cover.{covers_whole, has_many_keys, has_many_ranges, has_many_references, is_whole, keys_of, ranges_of, same_extent}
use Rattle.siread.specs.declared.extent.Form.{Form}
use Rattle.siread.specs.declared.extent.Form.TheVariants as form
use Rattle.siread.specs.declared.extent.Sought.TheVariants as sought
use Rattle.siread.specs.Adding.{adds_nothing, is_between, is_inner, is_inside}
use Rattle.siread.specs.Bounds.{count_in, HasFewKeys, HasFewOthers}
use Rattle.siread.specs.Extents.{has_form, is_read, is_sought, read_in, IsEachOnce}
use Rattle.siread.proofs.TallyLemmas.{count-ranges, finds_whole, many_references}

-- ---- numbers

five_with : (n m : ℕ) → ltb 4 (n + m) ≡ false → n ≤ 4
five_with n m e = let h = ltb-false 4 (n + m) e in omega arith

pub few_none : (A : Type 0) → HasFewKeys {A = A} []
few_none A t = omega arith

pub others_none : (A : Type 0) → HasFewOthers {A = A} []
others_none A = record { whole = λ t. omega arith; ranges = λ t. omega arith; references = λ t. omega arith }

module _ {A : Type 0} where
  -- ---- counting

  pub counted : (p : Reading A → Bool) (xs ys : List (Reading A)) → count_by p (xs ++ ys) ≡ count_by p xs + count_by p ys
  counted p xs ys = sum_by-append (λ r. cond (p r) 1 0) xs ys

  one : (p : Reading A → Bool) (r : Reading A) (b : Bool) → p r ≡ b → count_by p (r ∷ []) ≡ cond b 1 0
  one p r true e = ap (λ c. 0 + cond c 1 0) e
  one p r false e = ap (λ c. 0 + cond c 1 0) e

  pub one_more : (p : Reading A → Bool) (xs : List (Reading A)) (r : Reading A) (b : Bool) → p r ≡ b → count_by p (xs ++ r ∷ []) ≡ count_by p xs + cond b 1 0
  one_more p xs r b e = counted p xs (r ∷ []) ∙ ap (λ n. count_by p xs + n) (one p r b e)

  pub at_most_one_more : (p : Reading A → Bool) (xs : List (Reading A)) (r : Reading A) → count_by p (xs ++ r ∷ []) ≤ count_by p xs + 1
  at_most_one_more p xs r = go (p r) refl
    where
      go : (b : Bool) → p r ≡ b → count_by p (xs ++ r ∷ []) ≤ count_by p xs + 1
      go true e = let h = one_more p xs r true e in omega arith
      go false e = let h = one_more p xs r false e in omega arith

  -- without one
  without : (p : Reading A → Bool) (xs ys : List (Reading A)) (r : Reading A) (b : Bool) → p r ≡ b → count_by p (xs ++ r ∷ ys) ≡ count_by p (xs ++ ys) + cond b 1 0
  without p xs ys r b e =
      let whole : count_by p (xs ++ r ∷ ys) ≡ count_by p xs + count_by p (r ∷ ys) = counted p xs (r ∷ ys) in
      let back : count_by p (r ∷ ys) ≡ count_by p (r ∷ []) + count_by p ys = counted p (r ∷ []) ys in
      let that : count_by p (r ∷ []) ≡ cond b 1 0 = one p r b e in
      let rest : count_by p (xs ++ ys) ≡ count_by p xs + count_by p ys = counted p xs ys in
      omega arith

  pub fewer_without : (p : Reading A → Bool) (xs ys : List (Reading A)) (r : Reading A) → count_by p (xs ++ ys) ≤ count_by p (xs ++ r ∷ ys)
  fewer_without p xs ys r = let h = without p xs ys r (p r) refl in omega arith

  pub one_without : (p : Reading A → Bool) (xs ys : List (Reading A)) (r : Reading A) → p r ≡ true → count_by p (xs ++ ys) + 1 ≡ count_by p (xs ++ r ∷ ys)
  one_without p xs ys r e = sym (without p xs ys r true e)

  none_counted : (p : Reading A → Bool) (rs : List (Reading A)) → list_any p rs ≡ false → count_by p rs ≡ 0
  none_counted p [] e = refl
  none_counted p (r ∷ rs) e =
      let q = or_parts (p r) (list_any p rs) e in
      let back : count_by p (r ∷ rs) ≡ count_by p (r ∷ []) + count_by p rs = counted p (r ∷ []) rs in
      let that : count_by p (r ∷ []) ≡ 0 = one p r false q.0 in
      let rest = none_counted p rs q.1 in
      omega arith

  pub fewer_take : (p : Reading A → Bool) (n : ℕ) (rs : List (Reading A)) → count_by p (take n rs) ≤ count_by p rs
  fewer_take p n rs =
      let whole : count_by p (take n rs ++ drop n rs) ≡ count_by p (take n rs) + count_by p (drop n rs) = counted p (take n rs) (drop n rs) in
      let same : count_by p (take n rs ++ drop n rs) ≡ count_by p rs = ap (count_by p) (take-append-drop n rs) in
      omega arith

  -- ---- few keys

  key_of_another : (t : ℕ) (f : Form) (r : Reading A) → eqb r.table t ≡ false → is_read t (has_form f) r ≡ false
  key_of_another t f r e = ap (λ b. b && has_form f r.extent) e

  -- one more, of a table that has few keys with it
  pub few_with : (rs xs : List (Reading A)) (r : Reading A) → rs ≡ xs ++ r ∷ [] → HasFewKeys xs → count_in r.table form.Key rs ≤ 9 → HasFewKeys rs
  few_with rs xs r e h k t = go (eqb r.table t) refl
    where
      go : (b : Bool) → eqb r.table t ≡ b → count_in t form.Key rs ≤ 9
      go true s = subst (λ (u : ℕ). count_in u form.Key rs ≤ 9) (eqb-true r.table t s) k
      go false s =
          let more = one_more (is_read t (has_form form.Key)) xs r false (key_of_another t form.Key r s) in
          let same : count_in t form.Key rs ≡ count_in t form.Key (xs ++ r ∷ []) = ap (count_in t form.Key) e in
          let few = h t in
          omega arith

  -- one more, and a key of its table less
  pub few_without : (rs xs ys zs : List (Reading A)) (r q : Reading A) → rs ≡ xs ++ r ∷ [] → rs ≡ ys ++ q ∷ zs → HasFewKeys xs → count_in r.table form.Key (ys ++ zs) + 1 ≡ count_in r.table form.Key rs → HasFewKeys (ys ++ zs)
  few_without rs xs ys zs r q e f h k t = go (eqb r.table t) refl
    where
      go : (b : Bool) → eqb r.table t ≡ b → count_in t form.Key (ys ++ zs) ≤ 9
      go true s =
          let k2 : count_in t form.Key (ys ++ zs) + 1 ≡ count_in t form.Key rs = subst (λ (u : ℕ). count_in u form.Key (ys ++ zs) + 1 ≡ count_in u form.Key rs) (eqb-true r.table t s) k in
          let more = at_most_one_more (is_read t (has_form form.Key)) xs r in
          let same : count_in t form.Key rs ≡ count_in t form.Key (xs ++ r ∷ []) = ap (count_in t form.Key) e in
          let few = h t in
          omega arith
      go false s =
          let more = one_more (is_read t (has_form form.Key)) xs r false (key_of_another t form.Key r s) in
          let same : count_in t form.Key rs ≡ count_in t form.Key (xs ++ r ∷ []) = ap (count_in t form.Key) e in
          let less = fewer_without (is_read t (has_form form.Key)) ys zs q in
          let parts : count_in t form.Key rs ≡ count_in t form.Key (ys ++ q ∷ zs) = ap (count_in t form.Key) f in
          let few = h t in
          omega arith

  -- ---- few others

  -- no more than before
  pub others_fewer : (rs qs : List (Reading A)) → ((p : Reading A → Bool) → count_by p qs ≤ count_by p rs) → HasFewOthers rs → HasFewOthers qs
  others_fewer rs qs f h = record {
    whole = λ t. let a = f (is_read t (has_form form.Whole)) in let b = h.whole t in omega arith;
    ranges = λ t. let a = f (is_read t (has_form form.Range)) in let b = h.ranges t in omega arith;
    references = λ t. let a = f (is_read t (has_form form.Reference)) in let b = h.references t in omega arith;
  }

  pub others_without : (xs ys : List (Reading A)) (r : Reading A) → HasFewOthers (xs ++ r ∷ ys) → HasFewOthers (xs ++ ys)
  others_without xs ys r h = others_fewer (xs ++ r ∷ ys) (xs ++ ys) (λ p. fewer_without p xs ys r) h

  pub others_take : (n : ℕ) (rs : List (Reading A)) → HasFewOthers rs → HasFewOthers (take n rs)
  others_take n rs h = others_fewer rs (take n rs) (λ p. fewer_take p n rs) h

  -- what isn't covered whole has fewer
  uncovered : (rs : List (Reading A)) (r : Reading A) → adds_nothing rs r ≡ false → covers_whole (read_in r.table rs) ≡ false
  uncovered rs r h =
      (or_parts (covers_whole (read_in r.table rs)) (list_any (same_extent r.extent) (read_in r.table rs)) (or_parts (covers_whole (read_in r.table rs) || list_any (same_extent r.extent) (read_in r.table rs)) (is_between (keys_of (read_in r.table rs)) r.extent) h).0).0

  -- one more of a form, where its table has n at most
  within_one : (t n : ℕ) (f : Form) (rs : List (Reading A)) (r : Reading A) → count_in t f rs ≤ n + 1 → (r.table ≡ t → count_in t f rs ≤ n) → count_in t f (rs ++ r ∷ []) ≤ n + 1
  within_one t n f rs r h k = go (eqb r.table t) refl
    where
      go : (b : Bool) → eqb r.table t ≡ b → count_in t f (rs ++ r ∷ []) ≤ n + 1
      go true s = let few = k (eqb-true r.table t s) in let more = at_most_one_more (is_read t (has_form f)) rs r in omega arith
      go false s = let more = one_more (is_read t (has_form f)) rs r false (key_of_another t f r s) in omega arith

  pub others_push : (rs : List (Reading A)) (r : Reading A) → IsEachOnce rs → adds_nothing rs r ≡ false → HasFewOthers rs → HasFewOthers (rs ++ r ∷ [])
  others_push rs r o h few = record {
    whole = λ t. within_one t 0 form.Whole rs r (few.whole t) (λ e. let n = no_whole t e in omega arith);
    ranges = λ t. within_one t 4 form.Range rs r (few.ranges t) (few_ranges t);
    references = λ t. within_one t 8 form.Reference rs r (few.references t) (few_references t);
  }
    where
      parts : ((list_any is_whole (read_in r.table rs) || has_many_ranges (read_in r.table rs)) ≡ false) × (has_many_references (read_in r.table rs) ≡ false)
      parts = or_parts (list_any is_whole (read_in r.table rs) || has_many_ranges (read_in r.table rs)) (has_many_references (read_in r.table rs)) (uncovered rs r h)

      first : (list_any is_whole (read_in r.table rs) ≡ false) × (has_many_ranges (read_in r.table rs) ≡ false)
      first = or_parts (list_any is_whole (read_in r.table rs)) (has_many_ranges (read_in r.table rs)) parts.0

      no_whole : (t : ℕ) → r.table ≡ t → count_in t form.Whole rs ≡ 0
      no_whole t e = none_counted (is_read t (has_form form.Whole)) rs (finds_whole t rs ∙ ap (λ u. list_any is_whole (read_in u rs)) (sym e) ∙ first.0)

      few_ranges : (t : ℕ) → r.table ≡ t → count_in t form.Range rs ≤ 4
      few_ranges t e =
          let same = count-ranges t rs o in
          let few = five_with (length (ranges_of (read_in t rs))) (cond (has_many_keys (keys_of (read_in t rs))) 1 0) (ap (λ u. has_many_ranges (read_in u rs)) (sym e) ∙ first.1) in
          omega arith

      few_references : (t : ℕ) → r.table ≡ t → count_in t form.Reference rs ≤ 8
      few_references t e = ltb-false 8 (count_in t form.Reference rs) (many_references t rs o ∙ ap (λ u. has_many_references (read_in u rs)) (sym e) ∙ parts.1)

  -- ---- of three keys one is between the two others

  -- each test that r passes, one of rs passes
  abbrev IsOf : List (Reading A) → Reading A → Type 0
  IsOf rs r = (p : Reading A → Bool) → p r ≡ true → list_any p rs ≡ true

  -- a key of table t among the readings
  record IsKeyOf (rs : List (Reading A)) (t : ℕ) (v : Value A) : Type 0 where
    that : Reading A
    table : that.table ≡ t
    key : that.extent ≡ One v
    among : IsOf rs that

  is_inner_key : (rs : List (Reading A)) (t : ℕ) (low mid high : Value A) → IsKeyOf rs t low → IsKeyOf rs t mid → IsKeyOf rs t high → value_cmp low mid ≡ Less → value_cmp mid high ≡ Less → list_any (is_inner rs t) rs ≡ true
  is_inner_key rs t low mid high a b c below above = b.among (is_inner rs t) (and_from (eqb b.that.table t) (is_inside rs t b.that.extent) (at_table b.that b.table) (ap (is_inside rs t) b.key ∙ inside))
    where
      at_table : (r : Reading A) → r.table ≡ t → eqb r.table t ≡ true
      at_table r e = grind (arith)

      has_below : list_any (is_read t (is_sought sought.KeyBelow mid)) rs ≡ true
      has_below = a.among (is_read t (is_sought sought.KeyBelow mid)) (and_from (eqb a.that.table t) (is_sought sought.KeyBelow mid a.that.extent) (at_table a.that a.table) (ap (is_sought sought.KeyBelow mid) a.key ∙ ap is_lt below))

      has_above : list_any (is_read t (is_sought sought.KeyAbove mid)) rs ≡ true
      has_above = c.among (is_read t (is_sought sought.KeyAbove mid)) (and_from (eqb c.that.table t) (is_sought sought.KeyAbove mid c.that.extent) (at_table c.that c.table) (ap (is_sought sought.KeyAbove mid) c.key ∙ ap is_gt (value_cmp-total.antisymm high mid ∙ ap ordering_reverse above)))

      inside : is_inside rs t (One mid) ≡ true
      inside = and_from (list_any (is_read t (is_sought sought.KeyBelow mid)) rs) (list_any (is_read t (is_sought sought.KeyAbove mid)) rs) has_below has_above

  one_of_three : (rs : List (Reading A)) (t : ℕ) (x y z : Value A) → IsKeyOf rs t x → IsKeyOf rs t y → IsKeyOf rs t z → same x y ≡ false → same y z ≡ false → same x z ≡ false → list_any (is_inner rs t) rs ≡ true
  one_of_three rs t x y z a b c xy yz xz = go (value_cmp x y) (value_cmp y z) (value_cmp x z) refl refl refl
    where
      apart : (u v : Value A) → same u v ≡ false → value_cmp u v ≡ Equal → list_any (is_inner rs t) rs ≡ true
      apart u v s e = absurd (true≢false (sym (ap is_eq e) ∙ s))

      back : (u v : Value A) → value_cmp u v ≡ Greater → value_cmp v u ≡ Less
      back u v e = value_cmp-total.antisymm v u ∙ ap ordering_reverse e

      go : (o p q : Ordering) → value_cmp x y ≡ o → value_cmp y z ≡ p → value_cmp x z ≡ q → list_any (is_inner rs t) rs ≡ true
      go Less Less q d e f = is_inner_key rs t x y z a b c d e
      go Less Greater Less d e f = is_inner_key rs t x z y a c b f (back y z e)
      go Less Greater Greater d e f = is_inner_key rs t z x y c a b (back x z f) d
      go Greater Greater q d e f = is_inner_key rs t z y x c b a (back y z e) (back x y d)
      go Greater Less Less d e f = is_inner_key rs t y x z b a c (back x y d) f
      go Greater Less Greater d e f = is_inner_key rs t y z x b c a e (back x z f)
      go Equal p q d e f = apart x y xy d
      go Less Equal q d e f = apart y z yz e
      go Greater Equal q d e f = apart y z yz e
      go Less Greater Equal d e f = apart x z xz f
      go Greater Less Equal d e f = apart x z xz f

  -- ---- three keys among many

  -- the first that passes a test
  record HasFirst (p : Reading A → Bool) (rs : List (Reading A)) : Type 0 where
    front : List (Reading A)
    that : Reading A
    back : List (Reading A)
    whole : rs ≡ front ++ that ∷ back
    passes : p that ≡ true
    rest : count_by p rs ≤ count_by p back + 1

  first_passing : (p : Reading A → Bool) (rs : List (Reading A)) → 0 < count_by p rs → HasFirst p rs
  first_passing p [] h = absurd (omega arith)
  first_passing p (r ∷ rs) h = go (p r) refl (first_passing p rs)
    where
      back_count : count_by p (r ∷ rs) ≡ count_by p (r ∷ []) + count_by p rs
      back_count = counted p (r ∷ []) rs

      go : (b : Bool) → p r ≡ b → (0 < count_by p rs → HasFirst p rs) → HasFirst p (r ∷ rs)
      go true e rec = record { front = []; that = r; back = rs; whole = refl; passes = e; rest = let n = one p r true e in let m = back_count in omega arith }
      go false e rec =
          let n : count_by p (r ∷ []) ≡ 0 = one p r false e in
          let m = back_count in
          let q = rec (omega arith) in
          let l = q.rest in
          record { front = r ∷ q.front; that = q.that; back = q.back; whole = ap (λ xs. r ∷ xs) q.whole; passes = q.passes; rest = omega arith }

  is_of_at : (rs xs ys : List (Reading A)) (r : Reading A) → rs ≡ xs ++ r ∷ ys → IsOf rs r
  is_of_at rs xs ys r e p h = ap (list_any p) e ∙ list_any-append p xs (r ∷ ys) ∙ or_right (list_any p xs) (p r || list_any p ys) (or_left (p r) (list_any p ys) h)

  is_of_back : (rs xs ys : List (Reading A)) (r q : Reading A) → rs ≡ xs ++ r ∷ ys → IsOf ys q → IsOf rs q
  is_of_back rs xs ys r q e m p h = ap (list_any p) e ∙ list_any-append p xs (r ∷ ys) ∙ or_right (list_any p xs) (p r || list_any p ys) (or_right (p r) (list_any p ys) (m p h))

  once_back : (xs ys : List (Reading A)) (r : Reading A) → IsEachOnce (xs ++ r ∷ ys) → (list_any (is_read r.table (same_extent r.extent)) ys ≡ false) × IsEachOnce ys
  once_back [] ys r o = o
  once_back (x ∷ xs) ys r o = once_back xs ys r o.1

  not_passed : (rs : List (Reading A)) (q : Reading A) (p : Reading A → Bool) → IsOf rs q → list_any p rs ≡ false → p q ≡ false
  not_passed rs q p m h = go (p q) refl
    where
      go : (b : Bool) → p q ≡ b → b ≡ false
      go true e = absurd (true≢false (sym (m p e) ∙ h))
      go false e = refl

  -- the key of a reading that is one
  record IsSingle (t : ℕ) (r : Reading A) : Type 0 where
    value : Value A
    table : r.table ≡ t
    key : r.extent ≡ One value

  single : (t : ℕ) (r : Reading A) → is_read t (has_form form.Key) r ≡ true → IsSingle t r
  single t r h = go r.extent refl parts.1
    where
      parts : (eqb r.table t ≡ true) × (has_form form.Key r.extent ≡ true)
      parts = and_parts (eqb r.table t) (has_form form.Key r.extent) h

      go : (e : Extent A) → r.extent ≡ e → has_form form.Key e ≡ true → IsSingle t r
      go (One v) e k = record { value = v; table = eqb-true r.table t parts.0; key = e }
      go Whole e k = absurd (true≢false (sym k))
      go (Range a b) e k = absurd (true≢false (sym k))
      go (Referencing j v) e k = absurd (true≢false (sym k))

  apart_keys : (t : ℕ) (r q : Reading A) (a : IsSingle t r) (b : IsSingle t q) → is_read r.table (same_extent r.extent) q ≡ false → same a.value b.value ≡ false
  apart_keys t r q a b h = sym (ap (λ c. c && same a.value b.value) here) ∙ sym both_are ∙ h
    where
      itself : (n : ℕ) → eqb n n ≡ true
      itself n = grind (arith)

      here : eqb q.table r.table ≡ true
      here = ap (λ n. eqb n r.table) (b.table ∙ sym a.table) ∙ itself r.table

      both_are : is_read r.table (same_extent r.extent) q ≡ (eqb q.table r.table && same a.value b.value)
      both_are = ap (λ (e : Extent A). eqb q.table r.table && same_extent e q.extent) a.key ∙ ap (λ (e : Extent A). eqb q.table r.table && same_extent (One a.value) e) b.key

  pub inner_is_there : (t : ℕ) (rs : List (Reading A)) → IsEachOnce rs → 9 < count_in t form.Key rs → list_any (is_inner rs t) rs ≡ true
  inner_is_there t rs o many =
      let p : Reading A → Bool = is_read t (has_form form.Key) in
      let a = first_passing p rs (omega arith) in
      let m = a.rest in
      let b = first_passing p a.back (omega arith) in
      let n = b.rest in
      let c = first_passing p b.back (omega arith) in
      let once_a = once_back a.front a.back a.that (subst (λ (ks : List (Reading A)). IsEachOnce ks) a.whole o) in
      let once_b = once_back b.front b.back b.that (subst (λ (ks : List (Reading A)). IsEachOnce ks) b.whole once_a.1) in
      let ka = single t a.that a.passes in
      let kb = single t b.that b.passes in
      let kc = single t c.that c.passes in
      let b_of = is_of_at a.back b.front b.back b.that b.whole in
      let c_of = is_of_at b.back c.front c.back c.that c.whole in
      let c_of_a = is_of_back a.back b.front b.back b.that c.that b.whole c_of in
      one_of_three rs t ka.value kb.value kc.value
      (record { that = a.that; table = ka.table; key = ka.key; among = is_of_at rs a.front a.back a.that a.whole })
      (record { that = b.that; table = kb.table; key = kb.key; among = is_of_back rs a.front a.back a.that b.that a.whole b_of })
      (record { that = c.that; table = kc.table; key = kc.key; among = is_of_back rs a.front a.back a.that c.that a.whole c_of_a })
      (apart_keys t a.that b.that ka kb (not_passed a.back b.that (is_read a.that.table (same_extent a.that.extent)) b_of once_a.0))
      (apart_keys t b.that c.that kb kc (not_passed b.back c.that (is_read b.that.table (same_extent b.that.extent)) c_of once_b.0))
      (apart_keys t a.that c.that ka kc (not_passed a.back c.that (is_read a.that.table (same_extent a.that.extent)) c_of_a once_a.0))

  -- ---- where it stands

  pub stands : (p : Reading A → Bool) (rs : List (Reading A)) → list_any p rs ≡ true → position_or_len p rs < length rs
  stands p [] h = absurd (true≢false (sym h))
  stands p (r ∷ rs) h = go (p r) h (stands p rs)
    where
      go : (b : Bool) → (b || list_any p rs) ≡ true → (list_any p rs ≡ true → position_or_len p rs < length rs) → cond (not b) (1 + position_or_len p rs) 0 < suc (length rs)
      go true k rec = omega arith
      go false k rec = let l = rec k in omega arith

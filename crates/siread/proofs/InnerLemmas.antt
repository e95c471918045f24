-- One key less, where it lies between two others of many.
use Rattle.std.proofs.Common.{◌≡◌, refl, sym, ap, ◌∙◌, ℕ, ◌+◌, ◌-◌, ◌<◌, ◌≤◌, suc, Bool, true, false, true≢false, cond, ◌&&◌, ◌||◌, List, [], ◌∷◌, ◌++◌, length, take, drop, get_or, eqb, ltb, arith, subst, Option, Some, None, length-append, append_assoc, drop-cons}
use Rattle.std.proofs.Math.Seq.{take-append_seam, drop-append_seam}
use Rattle.std.proofs.lemmas.Bool.{eqb-true, lt-ltb, ltb-true, and_right, or_parts, and_parts, or_right, and_from}
use Rattle.std.proofs.lemmas.Bool.Decides.{nat_tests}
use Rattle.std.proofs.lemmas.Cmp.{tied_itself}
use Rattle.std.proofs.lemmas.List.{take-append-drop, take-append-le, drop-append-le, drop-drop, length-drop, length-take-le, take_more}
use Rattle.std.proofs.lemmas.List.Elements.{filter-append}
use Rattle.std.proofs.lemmas.List.Folds.{list_any-append}
use Rattle.std.proofs.lemmas.List.Quantifiers.{position-Some}
use Rattle.std.proofs.lemmas.List.Sums.{length-filter}
use Rattle.std.proofs.lemmas.Option.{none-some}
use Rattle.std.specs.Prelude.{count_by, position, IfNone, IfSome}
use Rattle.std.specs.List.{list_any, filter, position_or_len}
use Rattle.std.specs.declared.cmp.Ordering.{Ordering}
use Rattle.std.specs.declared.cmp.Ordering.TheVariants.{Less, Equal, Greater}
use Rattle.std.specs.Ordering.{is_lt, is_le, is_gt, is_ge}
use Rattle.value.specs.declared.value.Value.{Value}
use Rattle.value.specs.Order.{value_cmp, value_cmp-total}
use Rattle.value.proofs.Basics.{le_from_lt, any-weaker}
use Rattle.statement.specs.declared.reading.Extent.{Extent}
use Rattle.statement.specs.declared.reading.Extent.TheVariants.{Whole, One, Range, Referencing}
use Rattle.statement.specs.declared.reading.Reading.{Reading}
use Rattle.statement.specs.Cover.{covers_whole, has_many_keys, keys_of, same_extent}
use Rattle.statement.specs.Laws.{same_reading, HasSameReadings}
use Rattle.statement.proofs.CoverSet.{covers_by_set, covers_value_by_set}
use Rattle.siread.specs.declared.extent.Form.TheVariants as form
use Rattle.siread.specs.declared.extent.Sought.TheVariants as sought
use Rattle.siread.specs.Adding.{is_between, is_inner, is_inside, IsSpare, Settles}
use Rattle.siread.specs.Bounds.{count_in, HasFewKeys, HasFewOthers}
use Rattle.siread.specs.Extents.{has_form, is_read, is_sought, read_in, IsEachOnce}
use Rattle.siread.specs.Reads.{CoverAlike}
use Rattle.siread.proofs.AlikeLemmas.{alike-nothing, alike_equal, alike_itself, alike_more, alike_then, and_map}
use Rattle.siread.proofs.BoundLemmas.{few_with, few_without, inner_is_there, one_without, others_without, stands}
use Rattle.siread.proofs.TallyLemmas.{finds_at_least, finds_at_most, many_keys}

moved_in : (a x b : Bool) → ((a || b) || (x || false)) ≡ (a || (x || b))
moved_in true x b = refl
moved_in false true true = refl
moved_in false true false = refl
moved_in false false true = refl
moved_in false false false = refl

swapped : (a b c : Bool) → ((a || b) || c) ≡ (b || (a || c))
swapped true true c = refl
swapped true false c = refl
swapped false true c = refl
swapped false false c = refl

fewer : (a b c m n : ℕ) → m ≡ a + b → n ≡ a + c → b ≤ suc c → ltb 9 m ≡ true → ltb 8 n ≡ true
fewer a b c m n e f h g = grind (arith, nat_tests)

gt_is_ge : (o : Ordering) → is_gt o ≡ true → is_ge o ≡ true
gt_is_ge Less e = absurd (true≢false (sym e))
gt_is_ge Equal e = absurd (true≢false (sym e))
gt_is_ge Greater e = refl

module _ {A : Type 0} where
  -- ---- readings in another place

  pub alike_set : (rs qs : List (Reading A)) → HasSameReadings rs qs → CoverAlike rs qs
  alike_set rs qs s = record {
    keys = λ more t k. covers_by_set (rs ++ more) (qs ++ more) (both_more more) t k;
    references = λ more t j k. covers_value_by_set (rs ++ more) (qs ++ more) (both_more more) t j k;
  }
    where
      both_more : (more : List (Reading A)) → HasSameReadings (rs ++ more) (qs ++ more)
      both_more more q =
          list_any-append (same_reading q) rs more
          ∙ ap (λ b. b || list_any (same_reading q) more) (s q)
          ∙ sym (list_any-append (same_reading q) qs more)

  -- with the same read before them
  pub alike_before : (xs rs qs : List (Reading A)) → CoverAlike rs qs → CoverAlike (xs ++ rs) (xs ++ qs)
  alike_before xs rs qs a = record {
    keys = λ more t k.
        covers_by_set ((xs ++ rs) ++ more) (rs ++ (xs ++ more)) (turned rs more) t k
        ∙ a.keys (xs ++ more) t k
        ∙ sym (covers_by_set ((xs ++ qs) ++ more) (qs ++ (xs ++ more)) (turned qs more) t k);
    references = λ more t j k.
        covers_value_by_set ((xs ++ rs) ++ more) (rs ++ (xs ++ more)) (turned rs more) t j k
        ∙ a.references (xs ++ more) t j k
        ∙ sym (covers_value_by_set ((xs ++ qs) ++ more) (qs ++ (xs ++ more)) (turned qs more) t j k);
  }
    where
      turned : (ys more : List (Reading A)) → HasSameReadings ((xs ++ ys) ++ more) (ys ++ (xs ++ more))
      turned ys more q =
          list_any-append (same_reading q) (xs ++ ys) more
          ∙ ap (λ b. b || list_any (same_reading q) more) (list_any-append (same_reading q) xs ys)
          ∙ swapped (list_any (same_reading q) xs) (list_any (same_reading q) ys) (list_any (same_reading q) more)
          ∙ ap (λ b. list_any (same_reading q) ys || b) (sym (list_any-append (same_reading q) xs more))
          ∙ sym (list_any-append (same_reading q) ys (xs ++ more))

  to_place : (xs ys : List (Reading A)) (r : Reading A) → HasSameReadings ((xs ++ ys) ++ r ∷ []) (xs ++ r ∷ ys)
  to_place xs ys r q =
      list_any-append (same_reading q) (xs ++ ys) (r ∷ [])
      ∙ ap (λ b. b || (same_reading q r || false)) (list_any-append (same_reading q) xs ys)
      ∙ moved_in (list_any (same_reading q) xs) (same_reading q r) (list_any (same_reading q) ys)
      ∙ sym (list_any-append (same_reading q) xs (r ∷ ys))

  -- ---- without one

  any-without : (p : Reading A → Bool) (xs ys : List (Reading A)) (r : Reading A) → p r ≡ false → list_any p (xs ++ r ∷ ys) ≡ list_any p (xs ++ ys)
  any-without p xs ys r h =
      list_any-append p xs (r ∷ ys) ∙ ap (λ b. list_any p xs || (b || list_any p ys)) h ∙ sym (list_any-append p xs ys)

  any-fewer : (p : Reading A → Bool) (xs ys : List (Reading A)) (r : Reading A) → list_any p (xs ++ r ∷ ys) ≡ false → list_any p (xs ++ ys) ≡ false
  any-fewer p xs ys r h =
      let q = or_parts (list_any p xs) (p r || list_any p ys) (sym (list_any-append p xs (r ∷ ys)) ∙ h) in
      list_any-append p xs ys ∙ ap (λ b. b || list_any p ys) q.0 ∙ (or_parts (p r) (list_any p ys) q.1).1

  pub once-without : (xs ys : List (Reading A)) (r : Reading A) → IsEachOnce (xs ++ r ∷ ys) → IsEachOnce (xs ++ ys)
  once-without [] ys r o = o.1
  once-without (x ∷ xs) ys r o = (any-fewer (is_read x.table (same_extent x.extent)) xs ys r o.0, once-without xs ys r o.1)

  count-append : (p : Reading A → Bool) (xs ys : List (Reading A)) → count_by p (xs ++ ys) ≡ length (filter p xs) + length (filter p ys)
  count-append p xs ys = sym (length-filter p (xs ++ ys)) ∙ ap length (filter-append p xs ys) ∙ length-append (filter p xs) (filter p ys)

  count-without : (p : Reading A → Bool) (xs ys : List (Reading A)) (r : Reading A) → ltb 9 (count_by p (xs ++ r ∷ ys)) ≡ true → ltb 8 (count_by p (xs ++ ys)) ≡ true
  count-without p xs ys r h =
      fewer (length (filter p xs)) (length (filter p (r ∷ ys))) (length (filter p ys)) (count_by p (xs ++ r ∷ ys)) (count_by p (xs ++ ys))
      (count-append p xs (r ∷ ys)) (count-append p xs ys) (at_most (p r)) h
    where
      at_most : (b : Bool) → length (cond b (r ∷ filter p ys) (filter p ys)) ≤ suc (length (filter p ys))
      at_most true = omega arith
      at_most false = omega arith

  -- ---- between two others

  below_weaker : (v : Value A) (e : Extent A) → is_sought sought.KeyBelow v e ≡ true → is_sought sought.KeyAtMost v e ≡ true
  below_weaker v (One w) h = le_from_lt (value_cmp w v) h
  below_weaker v Whole h = h
  below_weaker v (Range a b) h = h
  below_weaker v (Referencing j w) h = h

  above_weaker : (v : Value A) (e : Extent A) → is_sought sought.KeyAbove v e ≡ true → is_sought sought.KeyAtLeast v e ≡ true
  above_weaker v (One w) h = gt_is_ge (value_cmp w v) h
  above_weaker v Whole h = h
  above_weaker v (Range a b) h = h
  above_weaker v (Referencing j w) h = h

  not_below : (v : Value A) (r : Reading A) → One v ≡ r.extent → is_read r.table (is_sought sought.KeyBelow v) r ≡ false
  not_below v r e = and_right (eqb r.table r.table) (is_sought sought.KeyBelow v r.extent) (sym (ap (is_sought sought.KeyBelow v) e) ∙ ap is_lt (tied_itself value_cmp-total v))

  not_above : (v : Value A) (r : Reading A) → One v ≡ r.extent → is_read r.table (is_sought sought.KeyAbove v) r ≡ false
  not_above v r e = and_right (eqb r.table r.table) (is_sought sought.KeyAbove v r.extent) (sym (ap (is_sought sought.KeyAbove v) e) ∙ ap is_gt (tied_itself value_cmp-total v))

  between_others : (xs ys : List (Reading A)) (r : Reading A) (e : Extent A) → e ≡ r.extent → IsEachOnce (xs ++ ys) → ltb 8 (count_by (is_read r.table (has_form form.Key)) (xs ++ ys)) ≡ true
      → is_inside (xs ++ r ∷ ys) r.table e ≡ true → is_between (keys_of (read_in r.table (xs ++ ys))) e ≡ true
  between_others xs ys r (One v) e o many h =
      and_from (has_many_keys keys && list_any (λ w. is_le (value_cmp w v)) keys) (list_any (λ w. is_ge (value_cmp w v)) keys)
      (and_from (has_many_keys keys) (list_any (λ w. is_le (value_cmp w v)) keys) (sym (many_keys r.table (xs ++ ys) o) ∙ many) least)
      greatest
    where
      keys : List (Value A)
      keys = keys_of (read_in r.table (xs ++ ys))

      parts : (list_any (is_read r.table (is_sought sought.KeyBelow v)) (xs ++ r ∷ ys) ≡ true) × (list_any (is_read r.table (is_sought sought.KeyAbove v)) (xs ++ r ∷ ys) ≡ true)
      parts = and_parts (list_any (is_read r.table (is_sought sought.KeyBelow v)) (xs ++ r ∷ ys)) (list_any (is_read r.table (is_sought sought.KeyAbove v)) (xs ++ r ∷ ys)) h

      least : list_any (λ w. is_le (value_cmp w v)) keys ≡ true
      least =
          sym (finds_at_most r.table v (xs ++ ys))
          ∙ any-weaker (is_read r.table (is_sought sought.KeyBelow v)) (is_read r.table (is_sought sought.KeyAtMost v))
          (λ q. and_map (eqb q.table r.table) (is_sought sought.KeyBelow v q.extent) (eqb q.table r.table) (is_sought sought.KeyAtMost v q.extent) (λ s. s) (below_weaker v q.extent))
          (xs ++ ys) (sym (any-without (is_read r.table (is_sought sought.KeyBelow v)) xs ys r (not_below v r e)) ∙ parts.0)

      greatest : list_any (λ w. is_ge (value_cmp w v)) keys ≡ true
      greatest =
          sym (finds_at_least r.table v (xs ++ ys))
          ∙ any-weaker (is_read r.table (is_sought sought.KeyAbove v)) (is_read r.table (is_sought sought.KeyAtLeast v))
          (λ q. and_map (eqb q.table r.table) (is_sought sought.KeyAbove v q.extent) (eqb q.table r.table) (is_sought sought.KeyAtLeast v q.extent) (λ s. s) (above_weaker v q.extent))
          (xs ++ ys) (sym (any-without (is_read r.table (is_sought sought.KeyAbove v)) xs ys r (not_above v r e)) ∙ parts.1)
  between_others xs ys r Whole e o many h = absurd (true≢false (sym h))
  between_others xs ys r (Range a b) e o many h = absurd (true≢false (sym h))
  between_others xs ys r (Referencing j w) e o many h = absurd (true≢false (sym h))

  alike-without : (xs ys : List (Reading A)) (r : Reading A) → IsEachOnce (xs ++ r ∷ ys) → ltb 9 (count_by (is_read r.table (has_form form.Key)) (xs ++ r ∷ ys)) ≡ true
      → is_inside (xs ++ r ∷ ys) r.table r.extent ≡ true → CoverAlike (xs ++ ys) (xs ++ r ∷ ys)
  alike-without xs ys r o many h =
      alike_then (xs ++ ys) ((xs ++ ys) ++ r ∷ []) (xs ++ r ∷ ys)
      (alike-nothing (xs ++ ys) r
      (or_right (covers_whole (read_in r.table (xs ++ ys)) || list_any (same_extent r.extent) (read_in r.table (xs ++ ys))) (is_between (keys_of (read_in r.table (xs ++ ys))) r.extent)
      (between_others xs ys r r.extent refl (once-without xs ys r o) (count-without (is_read r.table (has_form form.Key)) xs ys r many) h)))
      (alike_set ((xs ++ ys) ++ r ∷ []) (xs ++ r ∷ ys) (to_place xs ys r))

  -- the element at a place, with those before it and those after it
  pub parted : (x : Reading A) (xs : List (Reading A)) (i : ℕ) → i < length xs → xs ≡ take i xs ++ get_or xs i x ∷ drop (i + 1) xs
  parted x xs i h =
      let next : suc i ≡ i + 1 = omega arith in
      sym (take-append-drop i xs) ∙ ap (λ ys. take i xs ++ ys) (drop-cons xs i x h ∙ ap (λ n. get_or xs i x ∷ drop n xs) next)

  inner_is_key : (rs : List (Reading A)) (t : ℕ) (r : Reading A) → is_inner rs t r ≡ true → is_read t (has_form form.Key) r ≡ true
  inner_is_key rs t r h = go r.extent refl parts.1
    where
      parts : (eqb r.table t ≡ true) × (is_inside rs t r.extent ≡ true)
      parts = and_parts (eqb r.table t) (is_inside rs t r.extent) h

      go : (e : Extent A) → r.extent ≡ e → is_inside rs t e ≡ true → is_read t (has_form form.Key) r ≡ true
      go (One v) e k = and_from (eqb r.table t) (has_form form.Key r.extent) parts.0 (ap (has_form form.Key) e)
      go Whole e k = absurd (true≢false (sym k))
      go (Range a b) e k = absurd (true≢false (sym k))
      go (Referencing j v) e k = absurd (true≢false (sym k))

  -- one of these that is found
  inner_split : (t : ℕ) (rs xs ys : List (Reading A)) (r : Reading A) → rs ≡ xs ++ r ∷ ys → IsEachOnce rs → ltb 9 (count_by (is_read t (has_form form.Key)) rs) ≡ true
      → is_inner rs t r ≡ true → CoverAlike (xs ++ ys) rs
  inner_split t rs xs ys r e o many h =
      let p = and_parts (eqb r.table t) (is_inside rs t r.extent) h in
      let q = eqb-true r.table t p.0 in
      alike_then (xs ++ ys) (xs ++ r ∷ ys) rs
      (alike-without xs ys r (subst (λ (ks : List (Reading A)). IsEachOnce ks) e o)
      (ap (λ u. ltb 9 (count_by (is_read u (has_form form.Key)) (xs ++ r ∷ ys))) q ∙ sym (ap (λ zs. ltb 9 (count_by (is_read t (has_form form.Key)) zs)) e) ∙ many)
      (ap (λ u. is_inside (xs ++ r ∷ ys) u r.extent) q ∙ sym (ap (λ zs. is_inside zs t r.extent) e) ∙ p.1))
      (alike_equal (xs ++ r ∷ ys) rs (sym e))

  inner_alike : (t : ℕ) (rs : List (Reading A)) (i : ℕ) → IsEachOnce rs → ltb 9 (count_by (is_read t (has_form form.Key)) rs) ≡ true → position (is_inner rs t) rs ≡ Some i → IsSpare rs t i
  inner_alike t [] i o many e = absurd (true≢false (sym many))
  inner_alike t (x ∷ xs) i o many e =
      let s = position-Some (is_inner (x ∷ xs) t) (x ∷ xs) i x e in
      let p = parted x (x ∷ xs) i s.0 in
      record {
        within = s.0;
        alike = inner_split t (x ∷ xs) (take i (x ∷ xs)) (drop (i + 1) (x ∷ xs)) (get_or (x ∷ xs) i x) p o many s.1;
        fewer =
            one_without (is_read t (has_form form.Key)) (take i (x ∷ xs)) (drop (i + 1) (x ∷ xs)) (get_or (x ∷ xs) i x) (inner_is_key (x ∷ xs) t (get_or (x ∷ xs) i x) s.1)
            ∙ ap (count_by (is_read t (has_form form.Key))) (sym p);
      }

  pub inner_found : (t : ℕ) (rs : List (Reading A)) (found : Option ℕ) → IsEachOnce rs → ltb 9 (count_by (is_read t (has_form form.Key)) rs) ≡ true → found ≡ position (is_inner rs t) rs
      → IfSome found (λ i. IsSpare rs t i)
  inner_found t rs None o many e = tt
  inner_found t rs (Some i) o many e = inner_alike t rs i o many (sym e)

  -- where there are more than nine keys, one is found
  pub inner_not_found : (t : ℕ) (rs : List (Reading A)) (found : Option ℕ) → IsEachOnce rs → ltb 9 (count_by (is_read t (has_form form.Key)) rs) ≡ true → found ≡ position (is_inner rs t) rs
      → IfNone found (count_in t form.Key rs ≤ 9)
  inner_not_found t rs None o many e =
      absurd (none-some (position_or_len (is_inner rs t) rs)
      (e ∙ ap (λ b. cond b (Some (position_or_len (is_inner rs t) rs)) None)
      (lt-ltb (position_or_len (is_inner rs t) rs) (length rs) (stands (is_inner rs t) rs (inner_is_there t rs o (ltb-true 9 (count_in t form.Key rs) many))))))
  inner_not_found t rs (Some i) o many e = tt

  -- ---- a beginning that is settled

  pub settles_itself : (rs : List (Reading A)) (n : ℕ) → n ≤ length rs → IsEachOnce rs → HasFewKeys (take n rs) → Settles rs n rs n
  settles_itself rs n h o few = record { within = h; once = o; alike = alike_itself (take n rs); before = few; rest = refl; others = λ q. q }

  pub settles_then : (rs qs ps : List (Reading A)) (l m n : ℕ) → Settles rs l qs m → Settles qs m ps n → Settles rs l ps n
  settles_then rs qs ps l m n a b = record {
    within = b.within;
    once = b.once;
    alike = alike_then (take n ps) (take m qs) (take l rs) b.alike a.alike;
    before = b.before;
    rest = b.rest ∙ a.rest;
    others = λ q. b.others (a.others q);
  }

  -- of a list in three parts and one between them
  one_less : (xs ys zs : List (Reading A)) (r : Reading A) (n : ℕ) → n ≡ length (xs ++ ys) → IsEachOnce ((xs ++ r ∷ ys) ++ zs)
      → CoverAlike (xs ++ ys) (xs ++ r ∷ ys) → HasFewKeys (xs ++ ys) → Settles ((xs ++ r ∷ ys) ++ zs) (length (xs ++ r ∷ ys)) ((xs ++ ys) ++ zs) n
  one_less xs ys zs r n e o a few = record {
    within = let l = length-append (xs ++ ys) zs in omega arith;
    once =
        subst (λ (ks : List (Reading A)). IsEachOnce ks) (sym (append_assoc xs ys zs))
        (once-without xs (ys ++ zs) r (subst (λ (ks : List (Reading A)). IsEachOnce ks) (append_assoc xs (r ∷ ys) zs) o));
    alike =
        alike_then (take n ((xs ++ ys) ++ zs)) (xs ++ ys) (take (length (xs ++ r ∷ ys)) ((xs ++ r ∷ ys) ++ zs))
        (alike_equal (take n ((xs ++ ys) ++ zs)) (xs ++ ys) (ap (λ m. take m ((xs ++ ys) ++ zs)) e ∙ take-append_seam (xs ++ ys) zs))
        (alike_then (xs ++ ys) (xs ++ r ∷ ys) (take (length (xs ++ r ∷ ys)) ((xs ++ r ∷ ys) ++ zs)) a
        (alike_equal (xs ++ r ∷ ys) (take (length (xs ++ r ∷ ys)) ((xs ++ r ∷ ys) ++ zs)) (sym (take-append_seam (xs ++ r ∷ ys) zs))));
    before = subst (λ (ks : List (Reading A)). HasFewKeys ks) (sym (ap (λ m. take m ((xs ++ ys) ++ zs)) e ∙ take-append_seam (xs ++ ys) zs)) few;
    others = λ h.
        subst (λ (ks : List (Reading A)). HasFewOthers ks) (sym (append_assoc xs ys zs))
        (others_without xs (ys ++ zs) r (subst (λ (ks : List (Reading A)). HasFewOthers ks) (append_assoc xs (r ∷ ys) zs) h));
    rest = ap (λ m. drop m ((xs ++ ys) ++ zs)) e ∙ drop-append_seam (xs ++ ys) zs ∙ sym (drop-append_seam (xs ++ r ∷ ys) zs);
  }

  settles_at : (old new xs ys zs : List (Reading A)) (r : Reading A) (m n : ℕ) → old ≡ (xs ++ r ∷ ys) ++ zs → m ≡ length (xs ++ r ∷ ys) → new ≡ (xs ++ ys) ++ zs → n ≡ length (xs ++ ys)
      → IsEachOnce old → CoverAlike (xs ++ ys) (xs ++ r ∷ ys) → HasFewKeys (xs ++ ys) → Settles old m new n
  settles_at old new xs ys zs r m n e f g h o a few =
      subst (λ (ks : List (Reading A)). Settles ks m new n) (sym e)
      (subst (λ (k : ℕ). Settles ((xs ++ r ∷ ys) ++ zs) k new n) (sym f)
      (subst (λ (ks : List (Reading A)). Settles ((xs ++ r ∷ ys) ++ zs) (length (xs ++ r ∷ ys)) ks n) (sym g) (one_less xs ys zs r n h (subst (λ (ks : List (Reading A)). IsEachOnce ks) e o) a few)))

  settles_in : (x : Reading A) (kept new front rest : List (Reading A)) (left place : ℕ) → kept ≡ front ++ rest → left ≡ length front → place < left → IsEachOnce kept
      → CoverAlike (take place front ++ drop (place + 1) front) front → HasFewKeys (take place front ++ drop (place + 1) front) → new ≡ take place kept ++ drop (place + 1) kept → Settles kept left new (left - 1)
  settles_in x kept new front rest left place e f lt o a few g =
      let within : place < length front = omega arith in
      let p = parted x front place within in
      let l = ap length p in
      let m = length-append (take place front) (get_or front place x ∷ drop (place + 1) front) in
      let n = length-append (take place front) (drop (place + 1) front) in
      settles_at kept new (take place front) (drop (place + 1) front) rest (get_or front place x) left (left - 1)
      (e ∙ ap (λ ks. ks ++ rest) p)
      (f ∙ l)
      (g ∙ ap (λ ks. take place ks ++ drop (place + 1) ks) e
      ∙ ap (λ ks. ks ++ drop (place + 1) (front ++ rest)) (take-append-le place front rest (omega arith))
      ∙ ap (λ ks. take place front ++ ks) (drop-append-le (place + 1) front rest (omega arith))
      ∙ sym (append_assoc (take place front) (drop (place + 1) front) rest))
      (omega arith)
      o
      (alike_then (take place front ++ drop (place + 1) front) front (take place front ++ get_or front place x ∷ drop (place + 1) front) a (alike_equal front (take place front ++ get_or front place x ∷ drop (place + 1) front) p))
      few

  -- the first and one more, and a spare one of its table less
  pub settles_one : (kept new : List (Reading A)) (settled place : ℕ) (x : Reading A) → settled < length kept → x ≡ get_or kept settled x → IsEachOnce kept → HasFewKeys (take settled kept)
      → IsSpare (take (settled + 1) kept) x.table place → new ≡ take place kept ++ drop (place + 1) kept → Settles kept (settled + 1) new settled
  settles_one kept new settled place x lt at o few spare g =
      let front : List (Reading A) = take (settled + 1) kept in
      let long : length front ≡ settled + 1 = length-take-le (settled + 1) kept (omega arith) in
      let within = spare.within in
      let less : settled + 1 - 1 ≡ settled = omega arith in
      let last : front ≡ take settled kept ++ x ∷ [] = take_more kept settled x lt ∙ ap (λ y. take settled kept ++ y ∷ []) (sym at) in
      subst (λ (n : ℕ). Settles kept (settled + 1) new n) less
      (settles_in x kept new front (drop (settled + 1) kept) (settled + 1) place (sym (take-append-drop (settled + 1) kept)) (sym long) (omega arith) o spare.alike
      (few_without front (take settled kept) (take place front) (drop (place + 1) front) x (get_or front place x) last (parted x front place within) few spare.fewer) g)

  -- the first and one more, of whose table they have few keys
  pub settles_more : (kept : List (Reading A)) (settled : ℕ) (x : Reading A) → settled < length kept → x ≡ get_or kept settled x → IsEachOnce kept → HasFewKeys (take settled kept)
      → count_in x.table form.Key (take (settled + 1) kept) ≤ 9 → Settles kept (settled + 1) kept (settled + 1)
  settles_more kept settled x lt at o few h =
      settles_itself kept (settled + 1) (omega arith) o
      (few_with (take (settled + 1) kept) (take settled kept) x (take_more kept settled x lt ∙ ap (λ y. take settled kept ++ y ∷ []) (sym at)) few h)

  any_reading : Reading A
  any_reading = record { table = 0; extent = Whole }

  -- there is a next one, where there was
  pub next_within : (old kept : List (Reading A)) (m left : ℕ) → m < length old → Settles old m kept left → left < length kept
  next_within old kept m left lt a =
      let d = length-drop left kept in
      let e = length-drop m old in
      let same : length (drop left kept) ≡ length (drop m old) = ap length a.rest in
      omega arith

  -- so far, and one more
  pub settles_next : (old kept new : List (Reading A)) (m left n : ℕ) → m < length old → Settles old m kept left → Settles kept (left + 1) new n → Settles old (m + 1) new n
  settles_next old kept new m left n lt a b = record {
    within = b.within;
    once = b.once;
    alike = alike_then (take n new) (take (left + 1) kept) (take (m + 1) old) b.alike with_next;
    before = b.before;
    rest = b.rest ∙ sym (drop-drop 1 left kept) ∙ ap (drop 1) a.rest ∙ drop-drop 1 m old;
    others = λ h. b.others (a.others h);
  }
    where
      inside : left < length kept
      inside = next_within old kept m left lt a

      that : Reading A
      that = get_or old m any_reading

      same : get_or kept left any_reading ≡ that
      same = ap (λ rs. get_or rs 0 any_reading) (sym (drop-cons kept left any_reading inside) ∙ a.rest ∙ drop-cons old m any_reading lt)

      with_next : CoverAlike (take (left + 1) kept) (take (m + 1) old)
      with_next =
          alike_then (take (left + 1) kept) (take left kept ++ that ∷ []) (take (m + 1) old)
          (alike_equal (take (left + 1) kept) (take left kept ++ that ∷ []) (take_more kept left any_reading inside ∙ ap (λ y. take left kept ++ y ∷ []) same))
          (alike_then (take left kept ++ that ∷ []) (take m old ++ that ∷ []) (take (m + 1) old) (alike_more (take left kept) (take m old) (that ∷ []) a.alike)
          (alike_equal (take m old ++ that ∷ []) (take (m + 1) old) (sym (take_more old m any_reading lt))))

  -- ---- all that is kept

  -- the beginning settled, the rest as it was
  pub settled-alike : (old new : List (Reading A)) (m n : ℕ) → Settles old m new n → CoverAlike new old
  settled-alike old new m n s =
      alike_then new (take n new ++ drop n new) old (alike_equal new (take n new ++ drop n new) (sym (take-append-drop n new)))
      (alike_then (take n new ++ drop n new) (take m old ++ drop n new) old (alike_more (take n new) (take m old) (drop n new) s.alike)
      (alike_equal (take m old ++ drop n new) old (ap (λ ks. take m old ++ ks) s.rest ∙ take-append-drop m old)))

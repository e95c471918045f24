-- Tables with changes put in, read row by row: what is read is the lent reader's row or the changes' own.
use Rattle.std.proofs.Common.{◌≡◌, ℕ, ◌<◌, ◌≤◌, ◌==◌, ◌&&◌, eqb, Bool, true, false, true≢false, T, cond, List, [], ◌∷◌, map, filter, length, set, Option, Some, None, is_some, unwrap_or, Bor, refl, sym, ap, subst, ◌∙◌, arith}
use Rattle.std.proofs.Math.Bool.{and-false}
use Rattle.std.proofs.lemmas.Bool.{eqb-true, eqb-false, and_parts}
use Rattle.std.proofs.lemmas.Cmp.{tied_itself}
use Rattle.std.proofs.lemmas.Float.{T_from_true}
use Rattle.std.proofs.lemmas.List.{get_or-set_same, get_or-set_other}
use Rattle.std.specs.FinMap as finmap
use Rattle.std.specs.FinMap.{is_sorted}
use Rattle.std.specs.FinMap.Entries.{below_all}
use Rattle.std.specs.List.{AllByRecursion, find}
use Rattle.std.specs.List.Sorted.{IsStrictlySortedBy}
use Rattle.std.specs.Option.{option_map}
use Rattle.std.specs.Ordering.{is_lt, ordering_reverse}
use Rattle.std.specs.declared.cmp.Ordering.{Ordering}
use Rattle.std.specs.declared.cmp.Ordering.TheVariants.{Less, Equal, Greater}
use Rattle.value.specs.Order.{value_cmp, value_cmp-exact, value_cmp-total}
use Rattle.value.specs.declared.key.Key.{Key}
use Rattle.value.specs.declared.value.Value.{Value}
use Rattle.value.proofs.Basics.{true_from_T, Less-from_lt}
use Rattle.schema.specs.declared.changes.Change.{Change}
use Rattle.schema.specs.declared.reader.Bound.{Bound}
use Rattle.schema.specs.declared.reader.Bound.TheVariants.{After}
use Rattle.schema.specs.declared.row.Row.{Row}
use Rattle.schema.specs.declared.tables.Tables.{Tables}
use Rattle.schema.specs.Changing.{new_row, change_of, next_change, changes_at, IsByKey}
use Rattle.schema.specs.Plain.{same, rows_of, row_at, changed, put_in, put_all}
use Rattle.schema.specs.Rows.{Rows, IsInKeyOrder, is_within, next_row, row_of}
use Rattle.schema.proofs.PlainLemmas.{same_value, left_by, length-put_in, row_at-put_all, changed_sorted}
use Rattle.schema.proofs.RowsInOrder.{later_within}
use Rattle.snapshot.specs.Overlaid.{is_before, changes_within}
use Rattle.snapshot.proofs.FirstLemmas.{apart, first_of, none_of, is_first, next_past, same_next}

module _ {X : Type 0} (p q : X → Bool) (less : (x : X) → q x ≡ true → p x ≡ true) where
  -- what passes the stricter test is no more
  filter-at_most : (xs : List X) → length (filter q xs) ≤ length (filter p xs)
  filter-at_most [] = omega arith
  filter-at_most (x ∷ xs) = by_tests (q x) (p x) (less x) (filter-at_most xs)
    where
      by_tests : (a b : Bool) → (a ≡ true → b ≡ true) → length (filter q xs) ≤ length (filter p xs) → length (cond a (x ∷ filter q xs) (filter q xs)) ≤ length (cond b (x ∷ filter p xs) (filter p xs))
      by_tests true true l h = omega (arith, h)
      by_tests true false l h = absurd (true≢false (sym (l refl)))
      by_tests false true l h = omega (arith, h)
      by_tests false false l h = h

  -- and less where the first that passes the other doesn't
  filter-fewer : (xs : List X) (x : X) → find p xs ≡ Some x → q x ≡ false → length (filter q xs) < length (filter p xs)
  filter-fewer [] x found fails = cc
  filter-fewer (y ∷ xs) x found fails = by_tests (p y) refl (q y) refl found (λ h. filter-fewer xs x h fails)
    where
      by_tests : (b : Bool) → p y ≡ b → (a : Bool) → q y ≡ a → cond b (Some y) (find p xs) ≡ Some x → (find p xs ≡ Some x → length (filter q xs) < length (filter p xs)) → length (cond a (y ∷ filter q xs) (filter q xs)) < length (cond b (y ∷ filter p xs) (filter p xs))
      by_tests true passes true passes_too is rest = let e : y ≡ x = cc in absurd (true≢false (sym passes_too ∙ ap q e ∙ fails))
      by_tests true passes false fails_too is rest = omega (arith, filter-at_most xs)
      by_tests false passes true passes_too is rest = absurd (true≢false (sym (less y passes_too) ∙ passes))
      by_tests false passes false fails_too is rest = rest is

module _ {A : Type 0} where
  -- ---- what the changes leave at a key

  kept : (l : Option (Option (List (Value A)))) → cond (is_some l) l None ≡ l
  kept None = refl
  kept (Some fields) = refl

  -- a change of another table, or out of a bound, leaves nothing at a key of the table within it
  skip_table : (t : ℕ) (y : Change A) (ys : List (Change A)) (q : Value A) → (y.table == t) ≡ false → left_by t q (y ∷ ys) ≡ left_by t q ys
  skip_table t y ys q other = ap (λ b. cond (is_some (left_by t q ys)) (left_by t q ys) (cond (b && same q y.key) (Some y.fields) None)) other ∙ kept (left_by t q ys)

  skip_key : (t : ℕ) (y : Change A) (ys : List (Change A)) (q : Value A) → same q y.key ≡ false → left_by t q (y ∷ ys) ≡ left_by t q ys
  skip_key t y ys q other =
      ap (λ b. cond (is_some (left_by t q ys)) (left_by t q ys) (cond (eqb y.table t && b) (Some y.fields) None)) other
      ∙ ap (λ b. cond (is_some (left_by t q ys)) (left_by t q ys) (cond b (Some y.fields) None)) (and-false (eqb y.table t))
      ∙ kept (left_by t q ys)

  -- nothing is left at a key below all
  untouched : (t : ℕ) (q : Value A) (xs : List (Change A)) → AllByRecursion (λ l. value_cmp q l ≡ Less) (map (λ x. x.key) (changes_at xs t)) → left_by t q xs ≡ None
  untouched t q [] below = refl
  untouched t q (x ∷ xs) below = by_table (x.table == t) below (λ h. untouched t q xs h)
    where
      by_table : (b : Bool) → AllByRecursion (λ l. value_cmp q l ≡ Less) (map (λ y. y.key) (cond b (x ∷ changes_at xs t) (changes_at xs t)))
          → (AllByRecursion (λ l. value_cmp q l ≡ Less) (map (λ y. y.key) (changes_at xs t)) → left_by t q xs ≡ None)
          → cond (is_some (left_by t q xs)) (left_by t q xs) (cond (b && same q x.key) (Some x.fields) None) ≡ None
      by_table true below rest = rw (rest below.1, below.0) refl
      by_table false below rest = rw (rest below) refl

  below_keys : (q k : Value A) (ks : List (Value A)) → value_cmp q k ≡ Less → AllByRecursion (λ l. value_cmp k l ≡ Less) ks → AllByRecursion (λ l. value_cmp q l ≡ Less) ks
  below_keys q k [] below above = tt
  below_keys q k (l ∷ ks) below above = (value_cmp-total.trans q k l below above.0, below_keys q k ks below above.1)

  -- what it says is left at its key, it is within the bound, and nothing is left at a key within it that comes before
  abbrev IsFirstChange : List (Change A) → ℕ → Bound (Bor (Key A)) → Change A → Type 0
  IsFirstChange xs t bound x = (left_by t x.key xs ≡ Some x.fields) × (is_within bound x.key ≡ true) × ((q : Value A) → is_within bound q ≡ true → value_cmp q x.key ≡ Less → left_by t q xs ≡ None)

  first_change : (xs : List (Change A)) (t : ℕ) (bound : Bound (Bor (Key A))) (x : Change A) → IsByKey xs t → find (λ y. y.table == t && is_within bound y.key) xs ≡ Some x → IsFirstChange xs t bound x
  unfolding IsStrictlySortedBy
  first_change [] t bound x by_key found = cc
  first_change (y ∷ ys) t bound x by_key found = by_tests (y.table == t) refl (is_within bound y.key) refl by_key found (λ s h. first_change ys t bound x s h)
    where
      past : ((q : Value A) → is_within bound q ≡ true → left_by t q (y ∷ ys) ≡ left_by t q ys) → IsFirstChange ys t bound x → IsFirstChange (y ∷ ys) t bound x
      past skip f = (skip x.key f.1 ∙ f.0, f.1, λ q within below. skip q within ∙ f.2 q within below)

      by_tests : (a : Bool) → (y.table == t) ≡ a → (b : Bool) → is_within bound y.key ≡ b → IsStrictlySortedBy value_cmp (map (λ z. z.key) (cond a (y ∷ changes_at ys t) (changes_at ys t)))
          → cond (a && b) (Some y) (find (λ z. z.table == t && is_within bound z.key) ys) ≡ Some x
          → (IsByKey ys t → find (λ z. z.table == t && is_within bound z.key) ys ≡ Some x → IsFirstChange ys t bound x) → IsFirstChange (y ∷ ys) t bound x
      by_tests true table true inside sorted is rest =
          let e : y ≡ x = cc in
          subst (λ z. IsFirstChange (y ∷ ys) t bound z) e (
            rw (untouched t y.key ys sorted.0, table, tied_itself value_cmp-total y.key) refl,
            inside,
            λ q within below. rw (untouched t q ys (below_keys q y.key (map (λ z. z.key) (changes_at ys t)) below sorted.0), table, below) refl,
          )
      by_tests true table false outside sorted is rest = past (λ q within. skip_key t y ys q (apart bound q y.key within outside)) (rest sorted.1 is)
      by_tests false table b inside sorted is rest = past (λ q within. skip_table t y ys q table) (rest sorted is)

  none_changed : (xs : List (Change A)) (t : ℕ) (bound : Bound (Bor (Key A))) → find (λ y. y.table == t && is_within bound y.key) xs ≡ None → (q : Value A) → is_within bound q ≡ true → left_by t q xs ≡ None
  none_changed [] t bound none q within = refl
  none_changed (y ∷ ys) t bound none q within = by_tests (y.table == t) refl (is_within bound y.key) refl none (λ h. none_changed ys t bound h q within)
    where
      by_tests : (a : Bool) → (y.table == t) ≡ a → (b : Bool) → is_within bound y.key ≡ b → cond (a && b) (Some y) (find (λ z. z.table == t && is_within bound z.key) ys) ≡ None
          → (find (λ z. z.table == t && is_within bound z.key) ys ≡ None → left_by t q ys ≡ None) → left_by t q (y ∷ ys) ≡ None
      by_tests true table true inside is rest = cc
      by_tests true table false outside is rest = skip_key t y ys q (apart bound q y.key within outside) ∙ rest is
      by_tests false table b inside is rest = skip_table t y ys q table ∙ rest is

  -- the same of what is said of a key: its new row, or that it has none
  abbrev IsSaidFirst : List (Change A) → ℕ → Bound (Bor (Key A)) → Value A × Option (Row A) → Type 0
  IsSaidFirst xs t bound p =
      (left_by t p.0 xs ≡ Some (option_map (λ r. r.1) p.1)) × ((r : Row A) → p.1 ≡ Some r → r.0 ≡ p.0) × (is_within bound p.0 ≡ true)
      × ((q : Value A) → is_within bound q ≡ true → value_cmp q p.0 ≡ Less → left_by t q xs ≡ None)

  new_fields : (x : Change A) → x.fields ≡ option_map (λ r. r.1) (new_row x)
  new_fields x = go x.fields
    where
      go : (o : Option (List (Value A))) → o ≡ option_map (λ r. r.1) (option_map {T = List (Value A)} {U = Row A} (λ fields. (x.key, fields)) o)
      go None = refl
      go (Some fields) = refl

  new_key : (x : Change A) (r : Row A) → new_row x ≡ Some r → r.0 ≡ x.key
  new_key x r is = go x.fields is
    where
      go : (o : Option (List (Value A))) → option_map {T = List (Value A)} {U = Row A} (λ fields. (x.key, fields)) o ≡ Some r → r.0 ≡ x.key
      go None e = cc
      go (Some fields) e = let f : (x.key, fields) ≡ r = cc in ap (λ (p : Row A). p.0) (sym f)

  pub said : (xs : List (Change A)) (t : ℕ) (bound : Bound (Bor (Key A))) (p : Value A × Option (Row A)) → IsByKey xs t → next_change xs t bound ≡ Some p → IsSaidFirst xs t bound p
  said xs t bound p by_key is = go (find (λ y. y.table == t && is_within bound y.key) xs) refl is
    where
      go : (o : Option (Change A)) → find (λ y. y.table == t && is_within bound y.key) xs ≡ o → option_map {T = Change A} {U = Value A × Option (Row A)} (λ x. (x.key, new_row x)) o ≡ Some p → IsSaidFirst xs t bound p
      go None found e = cc
      go (Some x) found e =
          let f = first_change xs t bound x by_key found in
          let same_pair : (x.key, new_row x) ≡ p = cc in
          subst (λ z. IsSaidFirst xs t bound z) same_pair (f.0 ∙ ap Some (new_fields x), new_key x, f.1, f.2)

  pub unsaid : (xs : List (Change A)) (t : ℕ) (bound : Bound (Bor (Key A))) → next_change xs t bound ≡ None → (q : Value A) → is_within bound q ≡ true → left_by t q xs ≡ None
  unsaid xs t bound is = go (find (λ y. y.table == t && is_within bound y.key) xs) refl is
    where
      go : (o : Option (Change A)) → find (λ y. y.table == t && is_within bound y.key) xs ≡ o → option_map {T = Change A} {U = Value A × Option (Row A)} (λ x. (x.key, new_row x)) o ≡ None → (q : Value A) → is_within bound q ≡ true → left_by t q xs ≡ None
      go None found e = none_changed xs t bound found
      go (Some x) found e = cc

  -- ---- tables with changes put in are in order

  below_from : (k : Value A) (rows : Rows A) → below_all value_cmp k rows ≡ true → AllByRecursion (λ l. value_cmp k l ≡ Less) (map (λ row. row.0) rows)
  below_from k [] below = tt
  below_from k (row ∷ rows) below =
      let p = and_parts (is_lt (value_cmp k row.0)) (below_all value_cmp k rows) below in
      (Less-from_lt (value_cmp k row.0) p.0, below_from k rows p.1)

  in_order_from : (rows : Rows A) → is_sorted value_cmp rows ≡ true → IsInKeyOrder rows
  unfolding IsStrictlySortedBy
  in_order_from [] sorted = tt
  in_order_from (row ∷ rows) sorted =
      let p = and_parts (below_all value_cmp row.0 rows) (is_sorted value_cmp rows) sorted in
      (below_from row.0 rows p.0, in_order_from rows p.1)

  below_is : (k : Value A) (rows : Rows A) → AllByRecursion (λ l. value_cmp k l ≡ Less) (map (λ row. row.0) rows) → below_all value_cmp k rows ≡ true
  below_is k [] below = refl
  below_is k (row ∷ rows) below = rw below.0 (below_is k rows below.1)

  sorted_from : (rows : Rows A) → IsInKeyOrder rows → is_sorted value_cmp rows ≡ true
  unfolding IsStrictlySortedBy
  sorted_from [] sorted = refl
  sorted_from (row ∷ rows) sorted = rw (below_is row.0 rows sorted.0) (sorted_from rows sorted.1)

  put_in-sorted : (x : Change A) (X : Tables A) (t : ℕ) → t < length X → T (is_sorted value_cmp (rows_of X t)) → T (is_sorted value_cmp (rows_of (put_in x X) t))
  put_in-sorted x X t within sorted = go (eqb x.table t) refl
    where
      new : Rows A
      new = changed x.key x.fields (rows_of X x.table)

      go : (b : Bool) → eqb x.table t ≡ b → T (is_sorted value_cmp (rows_of (put_in x X) t))
      go true e =
          let table : x.table ≡ t = eqb-true x.table t e in
          let rows : rows_of (put_in x X) t ≡ changed x.key x.fields (rows_of X t) = subst (λ n. rows_of (set X n (changed x.key x.fields (rows_of X n))) t ≡ changed x.key x.fields (rows_of X t)) (sym table) (get_or-set_same X t (changed x.key x.fields (rows_of X t)) [] within) in
          rw rows (changed_sorted x.key x.fields (rows_of X t) sorted)
      go false e = rw (get_or-set_other X x.table t new [] (λ p. eqb-false x.table t e (sym p))) sorted

  put_all-sorted : (xs : List (Change A)) (X : Tables A) (t : ℕ) → t < length X → T (is_sorted value_cmp (rows_of X t)) → T (is_sorted value_cmp (rows_of (put_all xs X) t))
  put_all-sorted [] X t within sorted = sorted
  put_all-sorted (x ∷ xs) X t within sorted = put_all-sorted xs (put_in x X) t (rw (length-put_in x X) within) (put_in-sorted x X t within sorted)

  pub put_all-in_order : (xs : List (Change A)) (X : Tables A) (t : ℕ) → t < length X → IsInKeyOrder (rows_of X t) → IsInKeyOrder (rows_of (put_all xs X) t)
  put_all-in_order xs X t within sorted =
      in_order_from (rows_of (put_all xs X) t) (true_from_T (is_sorted value_cmp (rows_of (put_all xs X) t)) (put_all-sorted xs X t within (T_from_true (is_sorted value_cmp (rows_of X t)) (sorted_from (rows_of X t) sorted))))

  -- ---- one step of a reading

  before_or_not : (lent : Option (Row A)) (k q : Value A) (rows : Rows A) (bound : Bound (Bor (Key A))) → IsInKeyOrder rows → next_row rows bound ≡ lent → is_before lent k ≡ false → is_within bound q ≡ true → value_cmp q k ≡ Less → finmap.find value_cmp q rows ≡ None
  before_or_not None k q rows bound sorted read none inside below = none_of rows bound read q inside
  before_or_not (Some r) k q rows bound sorted read none inside below = (first_of rows bound r sorted read).2 q inside (by_order (value_cmp r.0 k) refl none)
    where
      by_order : (o : Ordering) → value_cmp r.0 k ≡ o → is_lt o ≡ false → value_cmp q r.0 ≡ Less
      by_order Less cmp e = absurd (true≢false e)
      by_order Equal cmp e = ap (value_cmp q) (value_cmp-exact r.0 k cmp) ∙ below
      by_order Greater cmp e = value_cmp-total.trans q k r.0 below (value_cmp-total.antisymm k r.0 ∙ ap ordering_reverse cmp)

  module _ (xs : List (Change A)) (X : Tables A) (t : ℕ) (bound : Bound (Bor (Key A))) (within : t < length X) (by_key : IsByKey xs t) (sorted : IsInKeyOrder (rows_of X t)) where
    abbrev overlaid : Rows A
    overlaid = rows_of (put_all xs X) t

    overlaid_sorted : IsInKeyOrder overlaid
    overlaid_sorted = put_all-in_order xs X t within sorted

    at_key : (q : Value A) → finmap.find value_cmp q overlaid ≡ unwrap_or (left_by t q xs) (row_at X t q)
    at_key q = row_at-put_all xs X t q within

    at_unchanged : (q : Value A) → left_by t q xs ≡ None → finmap.find value_cmp q overlaid ≡ row_at X t q
    at_unchanged q none = at_key q ∙ ap (λ o. unwrap_or o (row_at X t q)) none

    at_changed : (q : Value A) (fields : Option (List (Value A))) → left_by t q xs ≡ Some fields → finmap.find value_cmp q overlaid ≡ fields
    at_changed q fields some = at_key q ∙ ap (λ o. unwrap_or o (row_at X t q)) some

    -- without a change the lent row is read
    pub lent_alone : (lent : Option (Row A)) → next_row (rows_of X t) bound ≡ lent → next_change xs t bound ≡ None → next_row overlaid bound ≡ lent
    lent_alone lent read none = same_next overlaid (rows_of X t) bound overlaid_sorted sorted (λ q inside. at_unchanged q (unsaid xs t bound none q inside)) ∙ read

    -- so it is where it comes before the first change
    pub lent_first : (lent : Option (Row A)) (p : Value A × Option (Row A)) → next_row (rows_of X t) bound ≡ lent → next_change xs t bound ≡ Some p → is_before lent p.0 ≡ true → next_row overlaid bound ≡ lent
    lent_first None p read change before = absurd (true≢false (sym before))
    lent_first (Some r) p read change before =
        let f = first_of (rows_of X t) bound r sorted read in
        let s = said xs t bound p by_key change in
        let less = Less-from_lt (value_cmp r.0 p.0) before in
        is_first overlaid bound r overlaid_sorted
        (at_unchanged r.0 (s.3 r.0 f.1 less) ∙ f.0, f.1, λ q inside below. at_unchanged q (s.3 q inside (value_cmp-total.trans q r.0 p.0 below less)) ∙ f.2 q inside below)

    -- else the change's own row is
    pub own_first : (lent : Option (Row A)) (k : Value A) (own : Row A) → next_row (rows_of X t) bound ≡ lent → next_change xs t bound ≡ Some (k, Some own) → is_before lent k ≡ false → next_row overlaid bound ≡ Some own
    own_first lent k own read change before =
        let s = said xs t bound (k, Some own) by_key change in
        let key : own.0 ≡ k = s.1 own refl in
        is_first overlaid bound own overlaid_sorted (
          ap (λ q. finmap.find value_cmp q overlaid) key ∙ at_changed k (Some own.1) s.0,
          ap (is_within bound) key ∙ s.2,
          λ q inside below. let less : value_cmp q k ≡ Less = ap (value_cmp q) (sym key) ∙ below in at_unchanged q (s.3 q inside less) ∙ before_or_not lent k q (rows_of X t) bound sorted read before inside less,
        )

    -- or, where the change takes the row of its key away, the first after it
    pub gone_past : (lent : Option (Row A)) (key : Bor (Key A)) → next_row (rows_of X t) bound ≡ lent → next_change xs t bound ≡ Some (key.now, None) → is_before lent key.now ≡ false → next_row overlaid bound ≡ next_row overlaid (After key)
    gone_past lent key read change before = next_past overlaid bound key overlaid_sorted s.2 (λ q inside outside. gap q inside (value_cmp key.now q) refl outside)
      where
        s : IsSaidFirst xs t bound (key.now, None)
        s = said xs t bound (key.now, None) by_key change

        gap : (q : Value A) → is_within bound q ≡ true → (o : Ordering) → value_cmp key.now q ≡ o → is_lt o ≡ false → finmap.find value_cmp q overlaid ≡ None
        gap q inside Less cmp e = absurd (true≢false e)
        gap q inside Equal cmp e = ap (λ k. finmap.find value_cmp k overlaid) (sym (value_cmp-exact key.now q cmp)) ∙ at_changed key.now None s.0
        gap q inside Greater cmp e =
            let less : value_cmp q key.now ≡ Less = value_cmp-total.antisymm q key.now ∙ ap ordering_reverse cmp in
            at_unchanged q (s.3 q inside less) ∙ before_or_not lent key.now q (rows_of X t) bound sorted read before inside less

  -- past the key of the first change there are fewer
  pub fewer_past : (xs : List (Change A)) (t : ℕ) (bound : Bound (Bor (Key A))) (key : Bor (Key A)) (o : Option (Row A)) → IsByKey xs t → next_change xs t bound ≡ Some (key.now, o) → length (changes_within xs t (After key)) < length (changes_within xs t bound)
  fewer_past xs t bound key o by_key change = go (find (λ y. y.table == t && is_within bound y.key) xs) refl change
    where
      inside : is_within bound key.now ≡ true
      inside = (said xs t bound (key.now, o) by_key change).2

      less : (x : Change A) → (x.table == t && is_within (After key) x.key) ≡ true → (x.table == t && is_within bound x.key) ≡ true
      less x passes =
          let p = and_parts (x.table == t) (is_within (After key) x.key) passes in
          rw (p.0, later_within bound key.now x.key (Less-from_lt (value_cmp key.now x.key) p.1) inside) refl

      go : (f : Option (Change A)) → find (λ y. y.table == t && is_within bound y.key) xs ≡ f → option_map {T = Change A} {U = Value A × Option (Row A)} (λ x. (x.key, new_row x)) f ≡ Some (key.now, o) → length (changes_within xs t (After key)) < length (changes_within xs t bound)
      go None found e = cc
      go (Some x) found e =
          let same_pair : (x.key, new_row x) ≡ (key.now, o) = cc in
          let same_key : x.key ≡ key.now = ap (λ (p : Value A × Option (Row A)). p.0) same_pair in
          let tied : is_within (After key) x.key ≡ false = ap (λ k. is_lt (value_cmp key.now k)) same_key ∙ ap is_lt (tied_itself value_cmp-total key.now) in
          filter-fewer (λ y. y.table == t && is_within bound y.key) (λ y. y.table == t && is_within (After key) y.key) less xs x found (ap (λ b. x.table == t && b) tied ∙ and-false (x.table == t))

  -- ---- the row of a key

  row_of-find : (rows : Rows A) (k : Value A) → row_of rows k ≡ option_map (λ fields. (k, fields)) (finmap.find value_cmp k rows)
  row_of-find [] k = refl
  row_of-find (row ∷ rows) k = by_test (same k row.0) refl (row_of-find rows k)
    where
      by_test : (b : Bool) → same k row.0 ≡ b → row_of rows k ≡ option_map (λ fields. (k, fields)) (finmap.find value_cmp k rows)
          → cond b (Some row) (row_of rows k) ≡ option_map (λ fields. (k, fields)) (cond b (Some row.1) (finmap.find value_cmp k rows))
      by_test true e rest = ap (λ q. Some (q, row.1)) (sym (same_value k row.0 e))
      by_test false e rest = rest

  -- what the changes say of a key is what they leave there
  change_of-left : (xs : List (Change A)) (t : ℕ) (k : Value A) → IsByKey xs t → change_of xs t k ≡ option_map (λ o. option_map (λ fields. (k, fields)) o) (left_by t k xs)
  unfolding IsStrictlySortedBy
  change_of-left [] t k by_key = refl
  change_of-left (y ∷ ys) t k by_key = by_tests (y.table == t) refl (same k y.key) refl by_key (λ s. change_of-left ys t k s)
    where
      shown : Option (Option (List (Value A))) → Option (Option (Row A))
      shown l = option_map (λ o. option_map (λ fields. (k, fields)) o) l

      by_tests : (a : Bool) → (y.table == t) ≡ a → (b : Bool) → same k y.key ≡ b → IsStrictlySortedBy value_cmp (map (λ z. z.key) (cond a (y ∷ changes_at ys t) (changes_at ys t)))
          → (IsByKey ys t → change_of ys t k ≡ option_map (λ o. option_map (λ fields. (k, fields)) o) (left_by t k ys))
          → option_map new_row (cond (a && b) (Some y) (find (λ z. z.table == t && same k z.key) ys)) ≡ option_map (λ o. option_map (λ fields. (k, fields)) o) (left_by t k (y ∷ ys))
      by_tests true table true alike sorted rest =
          let key : k ≡ y.key = same_value k y.key alike in
          let left : left_by t k (y ∷ ys) ≡ Some y.fields = rw (untouched t k ys (subst (λ q. AllByRecursion (λ l. value_cmp q l ≡ Less) (map (λ z. z.key) (changes_at ys t))) (sym key) sorted.0), table, alike) refl in
          ap (λ q. Some (option_map (λ fields. (q, fields)) y.fields)) (sym key) ∙ ap (option_map (λ o. option_map (λ fields. (k, fields)) o)) (sym left)
      by_tests true table false differs sorted rest = rest sorted.1 ∙ ap (option_map (λ o. option_map (λ fields. (k, fields)) o)) (sym (skip_key t y ys k differs))
      by_tests false table b alike sorted rest = rest sorted ∙ ap (option_map (λ o. option_map (λ fields. (k, fields)) o)) (sym (skip_table t y ys k table))

  either : (k : Value A) (l : Option (Option (List (Value A)))) (r : Option (List (Value A))) → option_map {T = List (Value A)} {U = Row A} (λ fields. (k, fields)) (unwrap_or l r) ≡ unwrap_or (option_map (λ o. option_map (λ fields. (k, fields)) o) l) (option_map (λ fields. (k, fields)) r)
  either k None r = refl
  either k (Some o) r = refl

  -- a key's row is what the changes say of it, else the lent one
  pub row_of-overlaid : (xs : List (Change A)) (X : Tables A) (t : ℕ) (k : Value A) → t < length X → IsByKey xs t → row_of (rows_of (put_all xs X) t) k ≡ unwrap_or (change_of xs t k) (row_of (rows_of X t) k)
  row_of-overlaid xs X t k within by_key =
      row_of-find (rows_of (put_all xs X) t) k
      ∙ ap (option_map (λ fields. (k, fields))) (row_at-put_all xs X t k within)
      ∙ either k (left_by t k xs) (row_at X t k)
      ∙ (λ i. unwrap_or (sym (change_of-left xs t k by_key) i) (sym (row_of-find (rows_of X t) k) i))

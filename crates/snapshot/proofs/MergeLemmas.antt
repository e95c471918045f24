-- Own changes and the lent rows, walked side by side: a step of that walk is the next row of both together.
use Rattle.std.proofs.Common.{◌≡◌, ℕ, ◌+◌, ◌-◌, ◌<◌, ◌≤◌, ◌==◌, ◌&&◌, suc, Bool, true, false, true≢false, cond, List, [], ◌∷◌, ◌++◌, map, length, drop, Option, Some, None, Bor, refl, sym, ap, subst, ◌∙◌, append_assoc, arith, take, zero}
use Rattle.std.proofs.lemmas.Bool.{and_parts}
use Rattle.std.proofs.lemmas.List.{append-nil, length-append}
use Rattle.std.specs.List.{find, slice_get}
use Rattle.std.specs.Option.{option_map, option_map_or}
use Rattle.std.specs.Ordering.{is_lt, ordering_reverse}
use Rattle.std.specs.declared.cmp.Ordering.{Ordering}
use Rattle.std.specs.declared.cmp.Ordering.TheVariants.{Less, Equal, Greater}
use Rattle.value.specs.Order.{value_cmp, value_cmp-exact, value_cmp-total}
use Rattle.value.specs.declared.key.Key.{Key}
use Rattle.value.specs.declared.value.Value.{Value}
use Rattle.value.proofs.Basics.{Less-from_lt}
use Rattle.schema.specs.declared.changes.Change.{Change}
use Rattle.schema.specs.declared.reader.Bound.{Bound}
use Rattle.schema.specs.declared.reader.Bound.TheVariants.{After}
use Rattle.schema.specs.declared.row.Row.{Row}
use Rattle.schema.specs.declared.tables.Tables.{Tables}
use Rattle.schema.specs.Changing.{new_row, next_change, IsByKey}
use Rattle.schema.specs.Plain.{rows_of, put_all, same}
use Rattle.schema.specs.Rows.{Rows, IsInKeyOrder, is_within, next_row, rows_within}
use Rattle.schema.proofs.RowsInOrder.{later_within, next_row-rest, next_row-none}
use Rattle.snapshot.specs.Merging.{last_is_before, past_key, listed, unless_before}
use Rattle.snapshot.specs.Overlaid.{is_before, changes_after}
use Rattle.snapshot.proofs.FirstLemmas.{first_of, none_of, is_first, is_none}
use Rattle.snapshot.proofs.OverlayLemmas.{said, put_all-in_order, lent_alone, lent_first, own_first, gone_past, fewer_past}

module _ {X : Type 0} (p q : X → Bool) (less : (x : X) → q x ≡ true → p x ≡ true) where
  -- what is found by a test is found by a stricter one that it passes
  find-stricter : (xs : List X) (x : X) → find p xs ≡ Some x → q x ≡ true → find q xs ≡ Some x
  find-stricter [] x found passes = cc
  find-stricter (y ∷ xs) x found passes = by_tests (p y) (q y) refl (less y) found (λ h. find-stricter xs x h passes)
    where
      by_tests : (b a : Bool) → q y ≡ a → (a ≡ true → b ≡ true) → cond b (Some y) (find p xs) ≡ Some x → (find p xs ≡ Some x → find q xs ≡ Some x) → cond a (Some y) (find q xs) ≡ Some x
      by_tests true true e l is rest = is
      by_tests true false e l is rest = let same : y ≡ x = cc in absurd (true≢false (sym passes ∙ ap q (sym same) ∙ e))
      by_tests false true e l is rest = absurd (true≢false (sym (l refl)))
      by_tests false false e l is rest = rest is

  -- and where none is, none is by the stricter
  find-none : (xs : List X) → find p xs ≡ None → find q xs ≡ None
  find-none [] none = refl
  find-none (y ∷ xs) none = by_tests (p y) (q y) (less y) none (find-none xs)
    where
      by_tests : (b a : Bool) → (a ≡ true → b ≡ true) → cond b (Some y) (find p xs) ≡ None → (find p xs ≡ None → find q xs ≡ None) → cond a (Some y) (find q xs) ≡ None
      by_tests true a l is rest = cc
      by_tests false true l is rest = absurd (true≢false (sym (l refl)))
      by_tests false false l is rest = rest is

module _ {A : Type 0} where
  abbrev at : Key A → Bor (Key A)
  at key = record { ref_ptr = (0, 0); now = key }

  -- the first row within a bound is the first of those within it
  first_within : (rows : Rows A) (bound : Bound (Bor (Key A))) → next_row rows bound ≡ slice_get (rows_within rows bound) 0
  first_within [] bound = refl
  first_within (row ∷ rows) bound = by_test (is_within bound row.0) (first_within rows bound)
    where
      by_test : (b : Bool) → next_row rows bound ≡ slice_get (rows_within rows bound) 0 → cond b (Some row) (next_row rows bound) ≡ slice_get (cond b (row ∷ rows_within rows bound) (rows_within rows bound)) 0
      by_test true rest = refl
      by_test false rest = rest

  -- within two bounds with the same first row are the same rows
  same_rest : (rows : Rows A) (bound other : Bound (Bor (Key A))) → IsInKeyOrder rows → next_row rows bound ≡ next_row rows other → rows_within rows bound ≡ rows_within rows other
  same_rest rows bound other sorted same = go (next_row rows other) refl
    where
      go : (o : Option (Row A)) → next_row rows other ≡ o → rows_within rows bound ≡ rows_within rows other
      go None is = next_row-none rows bound (same ∙ is) ∙ sym (next_row-none rows other is)
      go (Some row) is = next_row-rest rows bound row (at row.0) sorted refl (same ∙ is) ∙ sym (next_row-rest rows other row (at row.0) sorted refl is)

  -- past a key, where no row within the bound comes before it
  passed : (rows : Rows A) (bound : Bound (Bor (Key A))) (key : Bor (Key A)) → IsInKeyOrder rows → is_within bound key.now ≡ true → is_before (next_row rows bound) key.now ≡ false → past_key key.now (rows_within rows bound) ≡ rows_within rows (After key)
  passed rows bound key sorted inside none_before = go (next_row rows bound) refl none_before
    where
      later : (q : Value A) → is_within (After key) q ≡ true → is_within bound q ≡ true
      later q past = later_within bound key.now q (Less-from_lt (value_cmp key.now q) past) inside

      by_order : (row : Row A) (o : Ordering) → value_cmp key.now row.0 ≡ o → next_row rows bound ≡ Some row → is_lt (value_cmp row.0 key.now) ≡ false → past_key key.now (rows_within rows bound) ≡ rows_within rows (After key)
      by_order row Less cmp is e =
          let f = first_of rows bound row sorted is in
          let whole = next_row-rest rows bound row (at row.0) sorted refl is in
          let found : next_row rows (After key) ≡ Some row = is_first rows (After key) row sorted (f.0, ap is_lt cmp, λ q past below. f.2 q (later q past) below) in
          let kept : past_key key.now (row ∷ rows_within rows (After (at row.0))) ≡ row ∷ rows_within rows (After (at row.0)) = rw cmp refl in
          ap (past_key key.now) whole ∙ kept ∙ sym whole ∙ same_rest rows bound (After key) sorted (is ∙ sym found)
      by_order row Equal cmp is e =
          let gone : past_key key.now (row ∷ rows_within rows (After key)) ≡ rows_within rows (After key) = rw cmp refl in
          ap (past_key key.now) (next_row-rest rows bound row key sorted (value_cmp-exact key.now row.0 cmp) is) ∙ gone
      by_order row Greater cmp is e = absurd (true≢false (sym (ap is_lt (value_cmp-total.antisymm row.0 key.now ∙ ap ordering_reverse cmp)) ∙ e))

      go : (o : Option (Row A)) → next_row rows bound ≡ o → is_before o key.now ≡ false → past_key key.now (rows_within rows bound) ≡ rows_within rows (After key)
      go None is e = ap (past_key key.now) (next_row-none rows bound is) ∙ sym (next_row-none rows (After key) (is_none rows (After key) sorted (λ q past. none_of rows bound is q (later q past))))
      go (Some row) is e = by_order row (value_cmp key.now row.0) refl is e

  -- the first change behind a key is that of the bound, where no change comes before
  stays : (xs : List (Change A)) (t : ℕ) (bound : Bound (Bor (Key A))) (key : Bor (Key A)) → is_within bound key.now ≡ true → ((p : Value A × Option (Row A)) → next_change xs t bound ≡ Some p → value_cmp key.now p.0 ≡ Less) → next_change xs t (After key) ≡ next_change xs t bound
  stays xs t bound key inside before = go (find (λ y. y.table == t && is_within bound y.key) xs) refl before
    where
      less : (x : Change A) → (x.table == t && is_within (After key) x.key) ≡ true → (x.table == t && is_within bound x.key) ≡ true
      less x passes =
          let p = and_parts (x.table == t) (is_within (After key) x.key) passes in
          rw (p.0, later_within bound key.now x.key (Less-from_lt (value_cmp key.now x.key) p.1) inside) refl

      table : (x : Change A) (ys : List (Change A)) → find (λ y. y.table == t && is_within bound y.key) ys ≡ Some x → (x.table == t) ≡ true
      table x [] found = cc
      table x (y ∷ ys) found = by_test (y.table == t && is_within bound y.key) refl found (table x ys)
        where
          by_test : (b : Bool) → (y.table == t && is_within bound y.key) ≡ b → cond b (Some y) (find (λ z. z.table == t && is_within bound z.key) ys) ≡ Some x → (find (λ z. z.table == t && is_within bound z.key) ys ≡ Some x → (x.table == t) ≡ true) → (x.table == t) ≡ true
          by_test true e is rest = let same : y ≡ x = cc in subst (λ (z : Change A). (z.table == t) ≡ true) same (and_parts (y.table == t) (is_within bound y.key) e).0
          by_test false e is rest = rest is

      shown : Option (Change A) → Option (Value A × Option (Row A))
      shown o = option_map (λ x. (x.key, new_row x)) o

      go : (o : Option (Change A)) → find (λ y. y.table == t && is_within bound y.key) xs ≡ o → ((p : Value A × Option (Row A)) → shown o ≡ Some p → value_cmp key.now p.0 ≡ Less) → next_change xs t (After key) ≡ shown o
      go None found e = ap shown (find-none (λ y. y.table == t && is_within bound y.key) (λ y. y.table == t && is_within (After key) y.key) less xs found)
      go (Some x) found e =
          let after : is_lt (value_cmp key.now x.key) ≡ true = ap is_lt (e (x.key, new_row x) refl) in
          ap shown (find-stricter (λ y. y.table == t && is_within bound y.key) (λ y. y.table == t && is_within (After key) y.key) less xs x found (rw (table x xs found, after) refl))

  -- the last of some rows is the last of those behind the first
  last_of_rest : (row : Row A) (rows : Rows A) (k : Key A) → 0 < length rows → last_is_before (row ∷ rows) k ≡ true → last_is_before rows k ≡ true
  last_of_rest row [] k some last = absurd (omega (arith, some))
  last_of_rest row (next ∷ rows) k some last = last

  -- where the last of the first rows within a bound comes before a key, the first does
  first_before : (n : ℕ) (rows : Rows A) (bound : Bound (Bor (Key A))) (k : Key A) (row : Row A) → IsInKeyOrder rows → next_row rows bound ≡ Some row → last_is_before (take (suc n) (rows_within rows bound)) k ≡ true → length (take (suc n) (rows_within rows bound)) ≡ suc n → value_cmp row.0 k ≡ Less
  first_before zero rows bound k row sorted is before many = Less-from_lt (value_cmp row.0 k) (sym (ap (λ (zs : Rows A). last_is_before (take 1 zs) k) (next_row-rest rows bound row (at row.0) sorted refl is)) ∙ before)
  first_before (suc n) rows bound k row sorted is before many = go (next_row rows (After (at row.0))) refl (λ s e. first_before n rows (After (at row.0)) k s sorted e)
    where
      whole : rows_within rows bound ≡ row ∷ rows_within rows (After (at row.0))
      whole = next_row-rest rows bound row (at row.0) sorted refl is

      go : (o : Option (Row A)) → next_row rows (After (at row.0)) ≡ o
          → ((s : Row A) → next_row rows (After (at row.0)) ≡ Some s → last_is_before (take (suc n) (rows_within rows (After (at row.0)))) k ≡ true → length (take (suc n) (rows_within rows (After (at row.0)))) ≡ suc n → value_cmp s.0 k ≡ Less)
          → value_cmp row.0 k ≡ Less
      go None e more = absurd (omega (arith, sym many ∙ ap (λ (zs : Rows A). length (take (suc (suc n)) zs)) (whole ∙ ap (λ zs. row ∷ zs) (next_row-none rows (After (at row.0)) e))))
      go (Some s) e more =
          let counted : suc (length (take (suc n) (rows_within rows (After (at row.0))))) ≡ suc (suc n) = sym (ap (λ (zs : Rows A). length (take (suc (suc n)) zs)) whole) ∙ many in
          let last = last_of_rest row (take (suc n) (rows_within rows (After (at row.0)))) k (omega (arith, counted)) (sym (ap (λ (zs : Rows A). last_is_before (take (suc (suc n)) zs) k) whole) ∙ before) in
          value_cmp-total.trans row.0 s.0 k (Less-from_lt (value_cmp row.0 s.0) (first_of rows (After (at row.0)) s sorted e).1) (more s e last (omega (arith, counted)))

  -- where a walk of both stands: the rows that are done, the lent rows ahead, and the first change to come
  pub record StandsAt (xs : List (Change A)) (X : Tables A) (t : ℕ) (after : Bound (Bor (Key A))) (done ahead : Rows A) (change : Option (Value A × Option (Row A))) : Type 0 where
    pub place : Bound (Bor (Key A))
    pub whole : done ++ rows_within (rows_of (put_all xs X) t) place ≡ rows_within (rows_of (put_all xs X) t) after
    pub lent : ahead ≡ rows_within (rows_of X t) place
    pub next : change ≡ next_change xs t place

  -- how much is to come
  abbrev pub to_come : List (Change A) → ℕ → Rows A → Option (Value A × Option (Row A)) → ℕ
  to_come xs t ahead None = length ahead
  to_come xs t ahead (Some p) = length ahead + suc (length (changes_after xs t p.0))

  -- what is first
  pub own_is_first : (lent : Option (Row A)) (change : Option (Value A × Option (Row A))) (p : Value A × Option (Row A)) → unless_before lent change ≡ Some p → (change ≡ Some p) × (is_before lent p.0 ≡ false)
  own_is_first lent None p is = cc
  own_is_first lent (Some c) p is = by_test (is_before lent c.0) refl is
    where
      by_test : (b : Bool) → is_before lent c.0 ≡ b → cond b None (Some c) ≡ Some p → (Some c ≡ Some p) × (is_before lent p.0 ≡ false)
      by_test true e h = cc
      by_test false e h = let same : c ≡ p = cc in (h, subst (λ (z : Value A × Option (Row A)). is_before lent z.0 ≡ false) same e)

  lent_is_first : (lent : Option (Row A)) (c : Value A × Option (Row A)) → unless_before lent (Some c) ≡ None → is_before lent c.0 ≡ true
  lent_is_first lent c is = by_test (is_before lent c.0) is
    where
      by_test : (b : Bool) → cond b None (Some c) ≡ None → b ≡ true
      by_test true h = refl
      by_test false h = cc

  -- going on behind what is first
  moved : (xs : List (Change A)) (X : Tables A) (t : ℕ) (after bound other : Bound (Bor (Key A))) (done more : Rows A)
      → done ++ rows_within (rows_of (put_all xs X) t) bound ≡ rows_within (rows_of (put_all xs X) t) after
      → rows_within (rows_of (put_all xs X) t) bound ≡ more ++ rows_within (rows_of (put_all xs X) t) other
      → (done ++ more) ++ rows_within (rows_of (put_all xs X) t) other ≡ rows_within (rows_of (put_all xs X) t) after
  moved xs X t after bound other done more whole is = append_assoc done more _ ∙ ap (λ rest. done ++ rest) (sym is) ∙ whole

  pub starts : (xs : List (Change A)) (X : Tables A) (t : ℕ) (after : Bound (Bor (Key A))) → StandsAt xs X t after [] (rows_within (rows_of X t) after) (next_change xs t after)
  starts xs X t after = record { place = after; whole = refl; lent = refl; next = refl }

  module _ (xs : List (Change A)) (X : Tables A) (t : ℕ) (after : Bound (Bor (Key A))) (within : t < length X) (by_key : IsByKey xs t) (sorted : IsInKeyOrder (rows_of X t)) where
    abbrev overlaid : Rows A
    overlaid = rows_of (put_all xs X) t

    overlaid_sorted : IsInKeyOrder overlaid
    overlaid_sorted = put_all-in_order xs X t within sorted

    -- the first of the lent rows ahead
    first_ahead : (done ahead : Rows A) (change : Option (Value A × Option (Row A))) (s : StandsAt xs X t after done ahead change) → next_row (rows_of X t) s.place ≡ slice_get ahead 0
    first_ahead done ahead change s = first_within (rows_of X t) s.place ∙ ap (λ (rows : Rows A). slice_get rows 0) (sym s.lent)

    -- a change comes first
    pub own_step : (done ahead : Rows A) (change : Option (Value A × Option (Row A))) (key : Bor (Key A)) (own : Option (Row A)) → StandsAt xs X t after done ahead change → unless_before (slice_get ahead 0) change ≡ Some (key.now, own) → StandsAt xs X t after (done ++ listed own) (past_key key.now ahead) (next_change xs t (After key))
    own_step done ahead change key own s is = record { place = After key; whole = moved xs X t after s.place (After key) done (listed own) s.whole (by_own own first.0); lent = ap (past_key key.now) s.lent ∙ passed (rows_of X t) s.place key sorted inside before; next = refl }
      where
        first : (change ≡ Some (key.now, own)) × (is_before (slice_get ahead 0) key.now ≡ false)
        first = own_is_first (slice_get ahead 0) change (key.now, own) is

        next : next_change xs t s.place ≡ Some (key.now, own)
        next = sym s.next ∙ first.0

        inside : is_within s.place key.now ≡ true
        inside = (said xs t s.place (key.now, own) by_key next).2

        before : is_before (next_row (rows_of X t) s.place) key.now ≡ false
        before = ap (λ o. is_before o key.now) (first_ahead done ahead change s) ∙ first.1

        by_own : (o : Option (Row A)) → change ≡ Some (key.now, o) → rows_within overlaid s.place ≡ listed o ++ rows_within overlaid (After key)
        by_own None e = same_rest overlaid s.place (After key) overlaid_sorted (gone_past xs X t s.place within by_key sorted (next_row (rows_of X t) s.place) key refl (sym s.next ∙ e) before)
        by_own (Some row) e =
            let same : key.now ≡ row.0 = sym ((said xs t s.place (key.now, Some row) by_key (sym s.next ∙ e)).1 row refl) in
            next_row-rest overlaid s.place row key overlaid_sorted same (own_first xs X t s.place within by_key sorted (next_row (rows_of X t) s.place) key.now row refl (sym s.next ∙ e) before)

    -- so it is for what a step makes of the rows, those ahead and the next change
    pub own_stands : (done ahead : Rows A) (change : Option (Value A × Option (Row A))) (key : Bor (Key A)) (own : Option (Row A)) (more left : Rows A) (next : Option (Value A × Option (Row A)))
        → StandsAt xs X t after done ahead change → unless_before (slice_get ahead 0) change ≡ Some (key.now, own) → more ≡ done ++ listed own → left ≡ past_key key.now ahead → next ≡ next_change xs t (After key) → StandsAt xs X t after more left next
    own_stands done ahead change key own more left next s is m l n =
        subst (λ (z : Rows A). StandsAt xs X t after z left next) (sym m) (
        subst (λ (z : Rows A). StandsAt xs X t after (done ++ listed own) z next) (sym l) (
        subst (λ (z : Option (Value A × Option (Row A))). StandsAt xs X t after (done ++ listed own) (past_key key.now ahead) z) (sym n) (own_step done ahead change key own s is)))

    -- a lent row comes first
    pub lent_step : (done ahead : Rows A) (change : Option (Value A × Option (Row A))) (row : Row A) → StandsAt xs X t after done ahead change → unless_before (slice_get ahead 0) change ≡ None → slice_get ahead 0 ≡ Some row → StandsAt xs X t after (done ++ row ∷ []) (drop 1 ahead) change
    lent_step done ahead change row s is first = record { place = After (at row.0); whole = moved xs X t after s.place (After (at row.0)) done (row ∷ []) s.whole (next_row-rest overlaid s.place row (at row.0) overlaid_sorted refl (found change s.next is)); lent = ap (drop 1) (s.lent ∙ rest); next = s.next ∙ sym (stays xs t s.place (at row.0) inside (behind change s.next is)) }
      where
        read : next_row (rows_of X t) s.place ≡ Some row
        read = first_ahead done ahead change s ∙ first

        rest : rows_within (rows_of X t) s.place ≡ row ∷ rows_within (rows_of X t) (After (at row.0))
        rest = next_row-rest (rows_of X t) s.place row (at row.0) sorted refl read

        inside : is_within s.place row.0 ≡ true
        inside = (first_of (rows_of X t) s.place row sorted read).1

        earlier : (c : Value A × Option (Row A)) → unless_before (slice_get ahead 0) (Some c) ≡ None → is_before (Some row) c.0 ≡ true
        earlier c e = lent_is_first (Some row) c (ap (λ o. unless_before o (Some c)) (sym first) ∙ e)

        found : (c : Option (Value A × Option (Row A))) → c ≡ next_change xs t s.place → unless_before (slice_get ahead 0) c ≡ None → next_row overlaid s.place ≡ Some row
        found None none e = lent_alone xs X t s.place within by_key sorted (Some row) read (sym none)
        found (Some c) some e = lent_first xs X t s.place within by_key sorted (Some row) c read (sym some) (earlier c e)

        behind : (c : Option (Value A × Option (Row A))) → c ≡ next_change xs t s.place → unless_before (slice_get ahead 0) c ≡ None → (p : Value A × Option (Row A)) → next_change xs t s.place ≡ Some p → value_cmp row.0 p.0 ≡ Less
        behind None none e p next = cc
        behind (Some c) some e p next =
            let same : c ≡ p = cc in
            Less-from_lt (value_cmp row.0 p.0) (subst (λ (z : Value A × Option (Row A)). is_before (Some row) z.0 ≡ true) same (earlier c e))

    pub lent_stands : (done ahead : Rows A) (change : Option (Value A × Option (Row A))) (row : Row A) (more left : Rows A) → StandsAt xs X t after done ahead change → unless_before (slice_get ahead 0) change ≡ None → slice_get ahead 0 ≡ Some row
        → more ≡ done ++ row ∷ [] → left ≡ drop 1 ahead → StandsAt xs X t after more left change
    lent_stands done ahead change row more left s is first m l =
        subst (λ (z : Rows A). StandsAt xs X t after z left change) (sym m) (subst (λ (z : Rows A). StandsAt xs X t after (done ++ row ∷ []) z change) (sym l) (lent_step done ahead change row s is first))

    abbrev IsSameFor : Value A × Option (Row A) → ℕ → Bound (Bor (Key A)) → Type 0
    IsSameFor p n bound = next_change xs t bound ≡ Some p → length (take n (rows_within (rows_of X t) bound)) ≡ n → last_is_before (take n (rows_within (rows_of X t) bound)) p.0 ≡ true → take n (rows_within overlaid bound) ≡ take n (rows_within (rows_of X t) bound)

    -- the lent rows up to one that comes before all changes are those of both
    same_before : (n : ℕ) (bound : Bound (Bor (Key A))) (p : Value A × Option (Row A)) → IsSameFor p n bound
    same_before zero bound p change many before = absurd (true≢false (sym before))
    same_before (suc n) bound p change many before = go (next_row (rows_of X t) bound) refl (λ b. same_before n b p)
      where
        go : (o : Option (Row A)) → next_row (rows_of X t) bound ≡ o → ((b : Bound (Bor (Key A))) → IsSameFor p n b) → take (suc n) (rows_within overlaid bound) ≡ take (suc n) (rows_within (rows_of X t) bound)
        go None is same = absurd (omega (arith, sym many ∙ ap (λ (rows : Rows A). length (take (suc n) rows)) (next_row-none (rows_of X t) bound is)))
        go (Some row) is same =
            let less = first_before n (rows_of X t) bound p.0 row sorted is before many in
            let both : next_row overlaid bound ≡ Some row = lent_first xs X t bound within by_key sorted (Some row) p is change (ap is_lt less) in
            let inside : is_within bound row.0 ≡ true = (first_of (rows_of X t) bound row sorted is).1 in
            let next : next_change xs t (After (at row.0)) ≡ Some p = stays xs t bound (at row.0) inside (λ q e. subst (λ (z : Value A × Option (Row A)). value_cmp row.0 z.0 ≡ Less) (one_change p q (sym change ∙ e)) less) ∙ change in
            let below = next_row-rest (rows_of X t) bound row (at row.0) sorted refl is in
            let above = next_row-rest overlaid bound row (at row.0) overlaid_sorted refl both in
            ap (take (suc n)) above
            ∙ ap (λ rest. row ∷ rest) (rest n same next (sym (ap (λ (rows : Rows A). length (take (suc n) rows)) below) ∙ many) (sym (ap (λ (rows : Rows A). last_is_before (take (suc n) rows) p.0) below) ∙ before))
            ∙ sym (ap (take (suc n)) below)
          where
            one_change : (a b : Value A × Option (Row A)) → Some a ≡ Some b → a ≡ b
            one_change a b e = cc

            rest : (m : ℕ) → ((b : Bound (Bor (Key A))) → IsSameFor p m b)
                → next_change xs t (After (at row.0)) ≡ Some p → suc (length (take m (rows_within (rows_of X t) (After (at row.0))))) ≡ suc m → last_is_before (row ∷ take m (rows_within (rows_of X t) (After (at row.0)))) p.0 ≡ true
                → take m (rows_within overlaid (After (at row.0))) ≡ take m (rows_within (rows_of X t) (After (at row.0)))
            rest zero more next many last = refl
            rest (suc m) more next many last = more (After (at row.0)) next (omega (arith, many)) (last_of_rest row (take (suc m) (rows_within (rows_of X t) (After (at row.0)))) p.0 (omega (arith, many)) last)

    pub all_before : (n : ℕ) (bound : Bound (Bor (Key A))) (rows : Rows A) → rows ≡ take n (rows_within (rows_of X t) bound) → length rows ≡ n → option_map_or (λ change. last_is_before rows change.0) (next_change xs t bound) false ≡ true → rows ≡ take n (rows_within overlaid bound)
    all_before n bound rows read many before = go (next_change xs t bound) refl before
      where
        go : (o : Option (Value A × Option (Row A))) → next_change xs t bound ≡ o → option_map_or (λ change. last_is_before rows change.0) o false ≡ true → rows ≡ take n (rows_within overlaid bound)
        go None change e = absurd (true≢false (sym e))
        go (Some p) change e = read ∙ sym (same_before n bound p change (ap length (sym read) ∙ many) (ap (λ (zs : Rows A). last_is_before zs p.0) (sym read) ∙ e))

    -- neither is left
    pub ends : (done ahead : Rows A) (change : Option (Value A × Option (Row A))) → StandsAt xs X t after done ahead change → unless_before (slice_get ahead 0) change ≡ None → slice_get ahead 0 ≡ None → done ≡ rows_within overlaid after
    ends done ahead None s is none = sym (append-nil done) ∙ ap (λ rest. done ++ rest) (sym (next_row-none overlaid s.place (lent_alone xs X t s.place within by_key sorted None (first_ahead done ahead None s ∙ none) (sym s.next)))) ∙ s.whole
    ends done ahead (Some c) s is none = absurd (some_first (ap (λ o. unless_before o (Some c)) (sym none) ∙ is))
      where
        some_first : Some c ≡ None → ⊥
        some_first e = cc

  -- ---- there is less to come

  past_key-at_most : (k : Key A) (rows : Rows A) → length (past_key k rows) ≤ length rows
  past_key-at_most k [] = omega arith
  past_key-at_most k (row ∷ rows) = by_test (same k row.0)
    where
      by_test : (b : Bool) → length (cond b rows (row ∷ rows)) ≤ suc (length rows)
      by_test true = omega arith
      by_test false = omega arith

  pub own_less : (xs : List (Change A)) (t : ℕ) (ahead : Rows A) (change : Option (Value A × Option (Row A))) (key : Bor (Key A)) (own : Option (Row A)) → IsByKey xs t → unless_before (slice_get ahead 0) change ≡ Some (key.now, own) → to_come xs t (past_key key.now ahead) (next_change xs t (After key)) < to_come xs t ahead change
  own_less xs t ahead change key own by_key is = subst (λ c. to_come xs t (past_key key.now ahead) (next_change xs t (After key)) < to_come xs t ahead c) (sym (own_is_first (slice_get ahead 0) change (key.now, own) is).0) (by_next (next_change xs t (After key)) refl)
    where
      by_next : (o : Option (Value A × Option (Row A))) → next_change xs t (After key) ≡ o → to_come xs t (past_key key.now ahead) o < length ahead + suc (length (changes_after xs t key.now))
      by_next None e = omega (arith, past_key-at_most key.now ahead)
      by_next (Some p) e = omega (arith, past_key-at_most key.now ahead, fewer_past xs t (After key) (at p.0) p.1 by_key e)

  pub own_smaller : (xs : List (Change A)) (t : ℕ) (ahead : Rows A) (change : Option (Value A × Option (Row A))) (key : Bor (Key A)) (own : Option (Row A)) (left : Rows A) (next : Option (Value A × Option (Row A))) → IsByKey xs t → unless_before (slice_get ahead 0) change ≡ Some (key.now, own)
      → left ≡ past_key key.now ahead → next ≡ next_change xs t (After key) → to_come xs t left next < to_come xs t ahead change
  own_smaller xs t ahead change key own left next by_key is l n =
      subst (λ (z : Rows A). to_come xs t z next < to_come xs t ahead change) (sym l) (subst (λ (z : Option (Value A × Option (Row A))). to_come xs t (past_key key.now ahead) z < to_come xs t ahead change) (sym n) (own_less xs t ahead change key own by_key is))

  -- ---- the rows so far

  pub lent_more : (rows : List (Bor (Row A))) (row : Bor (Row A)) → map (λ r. r.now) (rows ++ row ∷ []) ≡ map (λ r. r.now) rows ++ row.now ∷ []
  lent_more [] row = refl
  lent_more (first ∷ rows) row = ap (λ rest. first.now ∷ rest) (lent_more rows row)

  -- one more at most are still few enough
  pub few_more : (old new : Rows A) (own : Option (Row A)) (most : ℕ) → new ≡ old ++ listed own → length old < most → length new ≤ most
  few_more old new own most is few = go own (ap length is ∙ length-append old (listed own))
    where
      go : (o : Option (Row A)) → length new ≡ length old + length (listed o) → length new ≤ most
      go None e = omega (arith, e, few)
      go (Some row) e = omega (arith, e, few)

  pub lent_less : (xs : List (Change A)) (t : ℕ) (ahead : Rows A) (change : Option (Value A × Option (Row A))) (row : Row A) → slice_get ahead 0 ≡ Some row → to_come xs t (drop 1 ahead) change < to_come xs t ahead change
  lent_less xs t [] change row first = cc
  lent_less xs t (r ∷ ahead) None row first = omega arith
  lent_less xs t (r ∷ ahead) (Some p) row first = omega arith

  -- the last of lent rows
  pub last_lent : (rows : List (Bor (Row A))) (last : Bor (Row A)) (k : Key A) → Some last ≡ slice_get rows (length rows - 1) → last_is_before (map (λ r. r.now) rows) k ≡ is_lt (value_cmp last.now.0 k)
  last_lent [] last k is = absurd cc
  last_lent (row ∷ []) last k is = let same : last ≡ row = cc in ap (λ (r : Bor (Row A)). is_lt (value_cmp r.now.0 k)) (sym same)
  last_lent (row ∷ next ∷ rows) last k is =
      let inner : length (row ∷ next ∷ rows) - 1 ≡ suc (length (next ∷ rows) - 1) = omega arith in
      last_lent (next ∷ rows) last k (is ∙ ap (slice_get (row ∷ next ∷ rows)) inner)

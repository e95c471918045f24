-- Changes by table and key: what the maps that hold them say.
use Rattle.std.proofs.Common.{◌≡◌, ℕ, zero, suc, ◌+◌, ◌<◌, ◌≤◌, ◌==◌, ◌&&◌, Bool, true, false, cond, List, [], ◌∷◌, ◌++◌, length, get_or, set, Option, Some, None, Result, Ok, Err, OnOk, Bor, IfSome, refl, sym, ap, subst, ◌∙◌, arith, map, append-nil}
use Rattle.std.proofs.lemmas.Bool.Decides.{nat_tests}
use Rattle.std.proofs.lemmas.List.{get_or_read, get_or_past}
use Rattle.std.specs.BTreeMap.{insert_entry, is_at}
use Rattle.std.specs.BTreeMap.Range.{entries_between}
use Rattle.std.specs.Cmp.{nat_cmp_is}
use Rattle.std.specs.List.{AllByRecursion, find, slice_get}
use Rattle.std.specs.List.Sorted.{IsStrictlySortedBy}
use Rattle.std.proofs.lemmas.List.Elements.{filter-append}
use Rattle.std.specs.Map.{lookup, keys_of}
use Rattle.std.specs.Option.{option_map}
use Rattle.std.specs.Ordering.{is_eq, nat_cmp, ordering_then, ordering_reverse, match_ordering}
use Rattle.std.specs.declared.cmp.Ordering.{Ordering}
use Rattle.std.specs.declared.cmp.Ordering.TheVariants.{Less, Equal, Greater}
use Rattle.std.specs.declared.ops.Bound.{Bound as RangeBound}
use Rattle.std.specs.declared.ops.Bound.TheVariants as range
use Rattle.value.specs.declared.key.Key.{Key}
use Rattle.value.specs.declared.value.Value.{Value}
use Rattle.value.specs.Order.{value_cmp, value_cmp-exact, value_cmp-total}
use Rattle.value.proofs.Basics.{nat_cmp-self, eqb-self}
use Rattle.schema.specs.declared.row.Row.{Row}
use Rattle.schema.specs.declared.reader.Bound.{Bound}
use Rattle.schema.specs.declared.changes.Change.{Change}
use Rattle.schema.specs.Keyed.{start_of}
use Rattle.schema.specs.Rows.{is_within}
use Rattle.schema.proofs.KeyedLemmas.{within_is}
use Rattle.schema.specs.KeyedChange.{KeyedChange, shown_changes, own_rows}
use Rattle.schema.specs.Changing.{change_cmp, put_change, new_row, change_of, next_change, changes_at, IsByKey, put_keyed, own_row, keyed_change, next_keyed, changes_in, changes_from}

below_number : (n m : ℕ) → n < m → nat_cmp n m ≡ Less
below_number n m below = sym (nat_cmp_is n m Less below)

above_number : (n m : ℕ) → m < n → nat_cmp n m ≡ Greater
above_number n m above = sym (nat_cmp_is n m Greater above)

find-append : {X : Type 0} (test : X → Bool) (xs ys : List X) → find test xs ≡ None → find test (xs ++ ys) ≡ find test ys
find-append test [] ys none = refl
find-append test (x ∷ xs) ys none = by_test (test x) none (find-append test xs ys)
  where
    by_test : (b : Bool) → cond b (Some x) (find test xs) ≡ None → (find test xs ≡ None → find test (xs ++ ys) ≡ find test ys) → cond b (Some x) (find test (xs ++ ys)) ≡ find test ys
    by_test true is rest = cc
    by_test false is rest = rest is

option_map-twice : {X Y Z : Type 0} (f : Y → Z) (g : X → Y) (o : Option X) → option_map f (option_map g o) ≡ option_map (λ x. f (g x)) o
option_map-twice f g None = refl
option_map-twice f g (Some x) = refl

differ : (n t : ℕ) → t < n → (n == t) ≡ false
differ n t before = grind (arith, nat_tests)

differ_below : (n t : ℕ) → n < t → (n == t) ≡ false
differ_below n t after = grind (arith, nat_tests)

module _ {A : Type 0} where
  -- ---- the changes of one table

  -- an insertion into the map is a put
  pub shown_put : (entries : List (Value A × Option (Row A))) (k : Value A) (row : Option (Row A)) → shown_changes (insert_entry value_cmp entries k row) ≡ put_keyed (shown_changes entries) k (option_map (λ r. r.1) row)
  shown_put [] k row = refl
  shown_put (e ∷ entries) k row = by_cases (value_cmp k e.0) refl (shown_put entries k row)
    where
      fields : Option (List (Value A))
      fields = option_map (λ r. r.1) row

      by_cases : (o : Ordering) → value_cmp k e.0 ≡ o → shown_changes (insert_entry value_cmp entries k row) ≡ put_keyed (shown_changes entries) k (option_map (λ r. r.1) row)
          → shown_changes (match_ordering o ((k, row) ∷ e ∷ entries) ((e.0, row) ∷ entries) (e ∷ insert_entry value_cmp entries k row))
          ≡ match_ordering o ((k, option_map (λ r. r.1) row) ∷ shown_changes (e ∷ entries)) ((k, option_map (λ r. r.1) row) ∷ shown_changes entries) ((e.0, option_map (λ r. r.1) e.1) ∷ put_keyed (shown_changes entries) k (option_map (λ r. r.1) row))
      by_cases Less is rest = refl
      by_cases Equal is rest = ap (λ x. (x, option_map (λ r. r.1) row) ∷ shown_changes entries) (sym (value_cmp-exact k e.0 is))
      by_cases Greater is rest = ap (λ more. (e.0, option_map (λ r. r.1) e.1) ∷ more) rest

  own_value : (k : Value A) (row : Option (Row A)) → IfSome row (λ r. r.0 ≡ k) → row ≡ option_map (λ fields. (k, fields)) (option_map (λ r. r.1) row)
  own_value k None own = refl
  own_value k (Some r) own = ap (λ x. Some (x, r.1)) own

  -- each row stands beside its key still
  pub own_put : (entries : List (Value A × Option (Row A))) (k : Value A) (row : Option (Row A)) → entries ≡ own_rows (shown_changes entries) → IfSome row (λ r. r.0 ≡ k)
      → insert_entry value_cmp entries k row ≡ own_rows (shown_changes (insert_entry value_cmp entries k row))
  own_put [] k row own is = ap (λ r. (k, r) ∷ []) (own_value k row is)
  own_put (e ∷ entries) k row own is = by_cases (value_cmp k e.0) refl (own_put entries k row tail is)
    where
      tail : entries ≡ own_rows (shown_changes entries)
      tail = cc

      head : e ≡ (e.0, option_map (λ fields. (e.0, fields)) (option_map (λ r. r.1) e.1))
      head = cc

      by_cases : (o : Ordering) → value_cmp k e.0 ≡ o → insert_entry value_cmp entries k row ≡ own_rows (shown_changes (insert_entry value_cmp entries k row))
          → match_ordering o ((k, row) ∷ e ∷ entries) ((e.0, row) ∷ entries) (e ∷ insert_entry value_cmp entries k row)
          ≡ own_rows (shown_changes (match_ordering o ((k, row) ∷ e ∷ entries) ((e.0, row) ∷ entries) (e ∷ insert_entry value_cmp entries k row)))
      by_cases Less cmp rest = (λ i. (k, own_value k row is i) ∷ head i ∷ tail i)
      by_cases Equal cmp rest = (λ i. (e.0, own_value e.0 row (subst (λ x. IfSome row (λ r. r.0 ≡ x)) (value_cmp-exact k e.0 cmp) is) i) ∷ tail i)
      by_cases Greater cmp rest = (λ i. head i ∷ rest i)

  lookup-own : (test : Value A → Bool) (cs : List (KeyedChange A)) → lookup test (own_rows cs) ≡ option_map own_row (find (λ c. test c.0) cs)
  lookup-own test [] = refl
  lookup-own test (c ∷ cs) = by_test (test c.0) (lookup-own test cs)
    where
      by_test : (b : Bool) → lookup test (own_rows cs) ≡ option_map own_row (find (λ c. test c.0) cs) → cond b (Some (own_row c)) (lookup test (own_rows cs)) ≡ option_map own_row (cond b (Some c) (find (λ c. test c.0) cs))
      by_test true rest = refl
      by_test false rest = rest

  -- what the map has at a key
  pub keyed-shown : (entries : List (Value A × Option (Row A))) (k : Value A) → entries ≡ own_rows (shown_changes entries) → lookup (is_at (value_cmp k)) entries ≡ keyed_change (shown_changes entries) k
  keyed-shown entries k own = ap (lookup (is_at (value_cmp k))) own ∙ lookup-own (is_at (value_cmp k)) (shown_changes entries)

  first-own : (bound : Bound (Bor (Key A))) (cs : List (KeyedChange A)) → slice_get (entries_between value_cmp (start_of bound) range.Unbounded (own_rows cs)) 0 ≡ next_keyed cs bound
  first-own bound [] = refl
  first-own bound (c ∷ cs) = rw (within_is bound c.0) (by_test (is_within bound c.0) (first-own bound cs))
    where
      shown : List (Value A × Option (Row A))
      shown = entries_between value_cmp (start_of bound) range.Unbounded (own_rows cs)

      by_test : (b : Bool) → slice_get shown 0 ≡ next_keyed cs bound → slice_get (cond b ((c.0, own_row c) ∷ shown) shown) 0 ≡ option_map (λ d. (d.0, own_row d)) (cond b (Some c) (find (λ d. is_within bound d.0) cs))
      by_test true rest = refl
      by_test false rest = rest

  -- the first change within a bound
  pub next-shown : (entries : List (Value A × Option (Row A))) (bound : Bound (Bor (Key A))) (start : RangeBound (Value A)) (shown : List (Value A × Option (Row A))) → entries ≡ own_rows (shown_changes entries) → start ≡ start_of bound → shown ≡ entries_between value_cmp start range.Unbounded entries
      → slice_get shown 0 ≡ next_keyed (shown_changes entries) bound
  next-shown entries bound start shown own from_start between =
      ap (λ es. slice_get es 0) (between ∙ ap (λ b. entries_between value_cmp b range.Unbounded entries) from_start ∙ ap (entries_between value_cmp (start_of bound) range.Unbounded) own)
      ∙ first-own bound (shown_changes entries)

  -- ---- the changes of all tables

  -- one empty table more says nothing
  pub changes-more : (n : ℕ) (tables : List (List (KeyedChange A))) → changes_from n (tables ++ [] ∷ []) ≡ changes_from n tables
  changes-more n [] = refl
  changes-more n (cs ∷ tables) = ap (λ rest. changes_in n cs ++ rest) (changes-more (suc n) tables)

  -- a change comes before those of later tables
  ahead : (n : ℕ) (tables : List (List (KeyedChange A))) (x : Change A) → x.table < n → put_change (changes_from n tables) x ≡ x ∷ changes_from n tables
  ahead n [] x before = refl
  ahead n ([] ∷ tables) x before = ahead (suc n) tables x (omega arith)
  ahead n ((c ∷ cs) ∷ tables) x before = rw (below_number x.table n before) refl

  -- and after those of earlier ones
  past : (n : ℕ) (cs : List (KeyedChange A)) (rest : List (Change A)) (x : Change A) → n < x.table → put_change (changes_in n cs ++ rest) x ≡ changes_in n cs ++ put_change rest x
  past n [] rest x after = refl
  past n (c ∷ cs) rest x after = rw (above_number x.table n after) (ap (λ more. record { table = n; key = c.0; fields = c.1 } ∷ more) (past n cs rest x after))

  among : (n : ℕ) (cs : List (KeyedChange A)) (rest : List (Change A)) (k : Value A) (fields : Option (List (Value A))) → put_change rest (record { table = n; key = k; fields = fields }) ≡ record { table = n; key = k; fields = fields } ∷ rest
      → put_change (changes_in n cs ++ rest) (record { table = n; key = k; fields = fields }) ≡ changes_in n (put_keyed cs k fields) ++ rest
  among n [] rest k fields first = first
  among n (c ∷ cs) rest k fields first = rw (nat_cmp-self n) (by_cases (value_cmp k c.0) (among n cs rest k fields first))
    where
      x : Change A
      x = record { table = n; key = k; fields = fields }

      by_cases : (o : Ordering) → put_change (changes_in n cs ++ rest) (record { table = n; key = k; fields = fields }) ≡ changes_in n (put_keyed cs k fields) ++ rest
          → match_ordering o (record { table = n; key = k; fields = fields } ∷ record { table = n; key = c.0; fields = c.1 } ∷ (changes_in n cs ++ rest)) (record { table = n; key = k; fields = fields } ∷ (changes_in n cs ++ rest)) (record { table = n; key = c.0; fields = c.1 } ∷ put_change (changes_in n cs ++ rest) (record { table = n; key = k; fields = fields }))
          ≡ changes_in n (match_ordering o ((k, fields) ∷ c ∷ cs) ((k, fields) ∷ cs) (c ∷ put_keyed cs k fields)) ++ rest
      by_cases Less more = refl
      by_cases Equal more = refl
      by_cases Greater more = ap (λ ys. record { table = n; key = c.0; fields = c.1 } ∷ ys) more

  -- a put into the changes of one table is a put into all
  pub put_at : (n i t : ℕ) (tables : List (List (KeyedChange A))) (k : Value A) (fields : Option (List (Value A))) → t ≡ n + i → i < length tables
      → put_change (changes_from n tables) (record { table = t; key = k; fields = fields }) ≡ changes_from n (set tables i (put_keyed (get_or tables i []) k fields))
  put_at n i t [] k fields at within = absurd (omega arith)
  put_at n zero t (cs ∷ tables) k fields at within =
      let here : t ≡ n = omega (arith, at) in
      ap (λ m. put_change (changes_in n cs ++ changes_from (suc n) tables) (record { table = m; key = k; fields = fields })) here
      ∙ among n cs (changes_from (suc n) tables) k fields (ahead (suc n) tables (record { table = n; key = k; fields = fields }) (omega arith))
  put_at n (suc i) t (cs ∷ tables) k fields at within =
      past n cs (changes_from (suc n) tables) (record { table = t; key = k; fields = fields }) (omega (arith, at))
      ∙ ap (λ rest. changes_in n cs ++ rest) (put_at (suc n) i t tables k fields (omega (arith, at)) (omega arith))

  -- what a put into one table's changes leaves of all
  pub put_done : {U E : Type 0} (r : Result U E) (tables old : List (List (KeyedChange A))) (place t : ℕ) (k : Value A) (fields : Option (List (Value A))) (before after : List (KeyedChange A))
      → place < length tables → place ≡ t → changes_from 0 tables ≡ changes_from 0 old → before ≡ get_or tables place before → OnOk r (after ≡ put_keyed before k fields)
      → OnOk r (changes_from 0 (set tables place after) ≡ put_change (changes_from 0 old) (record { table = t; key = k; fields = fields }))
  put_done (Ok u) tables old place t k fields before after within at same read made =
      ap (λ cs. changes_from 0 (set tables place cs)) (made ∙ ap (λ cs. put_keyed cs k fields) (get_or_read tables place before within read []))
      ∙ sym (put_at 0 place t tables k fields (omega (arith, at)) within)
      ∙ ap (λ xs. put_change xs (record { table = t; key = k; fields = fields })) same
  put_done (Err e) tables old place t k fields before after within at same read made = tt

  -- ---- looking up

  module _ (test : Value A → Bool) (t : ℕ) where
    -- the first change of a table whose key passes
    abbrev first_of : List (Change A) → Option (Change A)
    first_of xs = find (λ x. x.table == t && test x.key) xs

    abbrev change_at : KeyedChange A → Change A
    change_at c = record { table = t; key = c.0; fields = c.1 }

    other_table : (n : ℕ) (cs : List (KeyedChange A)) → (n == t) ≡ false → first_of (changes_in n cs) ≡ None
    other_table n [] other = refl
    other_table n (c ∷ cs) other = rw other (other_table n cs other)

    apart : (n : ℕ) → t < n → (n == t) ≡ false
    apart n before = grind (arith, nat_tests)

    apart_below : (n : ℕ) → n < t → (n == t) ≡ false
    apart_below n after = grind (arith, nat_tests)

    none_later : (n : ℕ) (tables : List (List (KeyedChange A))) → t < n → first_of (changes_from n tables) ≡ None
    none_later n [] before = refl
    none_later n (cs ∷ tables) before = find-append _ (changes_in n cs) (changes_from (suc n) tables) (other_table n cs (apart n before)) ∙ none_later (suc n) tables (omega arith)

    first_here : (cs : List (KeyedChange A)) (rest : List (Change A)) → first_of rest ≡ None → first_of (changes_in t cs ++ rest) ≡ option_map change_at (find (λ c. test c.0) cs)
    first_here [] rest none = none
    first_here (c ∷ cs) rest none = rw (eqb-self t) (by_test (test c.0) (first_here cs rest none))
      where
        by_test : (b : Bool) → first_of (changes_in t cs ++ rest) ≡ option_map change_at (find (λ c. test c.0) cs) → cond b (Some (change_at c)) (first_of (changes_in t cs ++ rest)) ≡ option_map change_at (cond b (Some c) (find (λ c. test c.0) cs))
        by_test true more = refl
        by_test false more = more

    -- is the first of that table's
    pub first_from : (n i : ℕ) (tables : List (List (KeyedChange A))) → t ≡ n + i → first_of (changes_from n tables) ≡ option_map change_at (find (λ c. test c.0) (get_or tables i []))
    first_from n i [] at = refl
    first_from n zero (cs ∷ tables) at =
        let here : n ≡ t = omega (arith, at) in
        ap (λ m. first_of (changes_in m cs ++ changes_from (suc n) tables)) here ∙ first_here cs (changes_from (suc n) tables) (none_later (suc n) tables (omega (arith, at)))
    first_from n (suc i) (cs ∷ tables) at =
        find-append _ (changes_in n cs) (changes_from (suc n) tables) (other_table n cs (apart_below n (omega (arith, at)))) ∙ first_from (suc n) i tables (omega (arith, at))

  -- what all the changes say of a key is what its table's say
  pub change_of-table : (t : ℕ) (tables : List (List (KeyedChange A))) (k : Value A) → change_of (changes_from 0 tables) t k ≡ keyed_change (get_or tables t []) k
  change_of-table t tables k = ap (option_map new_row) (first_from (λ x. is_eq (value_cmp k x)) t 0 t tables (omega arith)) ∙ option_map-twice new_row _ _

  next-both : (c : Option (KeyedChange A)) (t : ℕ) → option_map {T = Change A} {U = Value A × Option (Row A)} (λ x. (x.key, new_row x)) (option_map {T = KeyedChange A} {U = Change A} (λ d. record { table = t; key = d.0; fields = d.1 }) c) ≡ option_map {T = KeyedChange A} {U = Value A × Option (Row A)} (λ d. (d.0, own_row d)) c
  next-both None t = refl
  next-both (Some c) t = refl

  -- and the first within a bound
  pub next_change-table : (t : ℕ) (tables : List (List (KeyedChange A))) (bound : Bound (Bor (Key A))) → next_change (changes_from 0 tables) t bound ≡ next_keyed (get_or tables t []) bound
  next_change-table t tables bound = ap (option_map {T = Change A} {U = Value A × Option (Row A)} (λ x. (x.key, new_row x))) (first_from (is_within bound) t 0 t tables (omega arith)) ∙ next-both (find (λ c. is_within bound c.0) (get_or tables t [])) t

  -- ---- changes put in one above another

  -- a change above all others comes last
  pub put_change-last : (xs : List (Change A)) (x : Change A) → AllByRecursion (λ y. change_cmp x y ≡ Greater) xs → put_change xs x ≡ xs ++ x ∷ []
  put_change-last [] x above = refl
  put_change-last (y ∷ ys) x above = rw above.0 (ap (λ more. y ∷ more) (put_change-last ys x above.1))

  pub above_key : (x y : Change A) → y.table ≡ x.table → value_cmp y.key x.key ≡ Less → change_cmp x y ≡ Greater
  above_key x y same_table below =
      ap (λ t. ordering_then (nat_cmp x.table t) (value_cmp x.key y.key)) same_table
      ∙ ap (λ o. ordering_then o (value_cmp x.key y.key)) (nat_cmp-self x.table)
      ∙ value_cmp-total.antisymm x.key y.key ∙ ap ordering_reverse below

  above_keys : (xs : List (Change A)) (x : Change A) → AllByRecursion (λ y. (y.table ≡ x.table) × (value_cmp y.key x.key ≡ Less)) xs → AllByRecursion (λ y. change_cmp x y ≡ Greater) xs
  above_keys [] x below = tt
  above_keys (y ∷ ys) x below = (above_key x y below.0.0 below.0.1, above_keys ys x below.1)

  -- and so does one of a key above those of all others, which are of its table
  pub put_change-last_key : (xs : List (Change A)) (x : Change A) → AllByRecursion (λ y. (y.table ≡ x.table) × (value_cmp y.key x.key ≡ Less)) xs → put_change xs x ≡ xs ++ x ∷ []
  put_change-last_key xs x below = put_change-last xs x (above_keys xs x below)

  -- ---- the order of keys

  shown_keys : (entries : List (Value A × Option (Row A))) → keys_of entries ≡ map (λ c. c.0) (shown_changes entries)
  shown_keys [] = refl
  shown_keys (e ∷ entries) = ap (λ keys. e.0 ∷ keys) (shown_keys entries)

  -- a map in the order of its keys holds changes by rising keys
  pub shown_order : (entries : List (Value A × Option (Row A))) (cs : List (KeyedChange A)) → shown_changes entries ≡ cs → IsStrictlySortedBy value_cmp (keys_of entries) → IsStrictlySortedBy value_cmp (map (λ c. c.0) cs)
  shown_order entries cs shown sorted = subst (IsStrictlySortedBy value_cmp) (shown_keys entries ∙ ap (map (λ c. c.0)) shown) sorted

  at_other : (t n : ℕ) (cs : List (KeyedChange A)) → (n == t) ≡ false → changes_at (changes_in n cs) t ≡ []
  at_other t n [] other = refl
  at_other t n (c ∷ cs) other = rw other (at_other t n cs other)

  at_own : (t : ℕ) (cs : List (KeyedChange A)) → changes_at (changes_in t cs) t ≡ changes_in t cs
  at_own t [] = refl
  at_own t (c ∷ cs) = rw (eqb-self t) (ap (λ xs. record { table = t; key = c.0; fields = c.1 } ∷ xs) (at_own t cs))

  at_later : (t n : ℕ) (tables : List (List (KeyedChange A))) → t < n → changes_at (changes_from n tables) t ≡ []
  at_later t n [] before = refl
  at_later t n (cs ∷ tables) before = filter-append _ (changes_in n cs) (changes_from (suc n) tables) ∙ (λ i. at_other t n cs (differ n t before) i ++ at_later t (suc n) tables (omega arith) i)

  -- the changes of a table are those in its place
  changes_at-place : (t n i : ℕ) (tables : List (List (KeyedChange A))) → t ≡ n + i → changes_at (changes_from n tables) t ≡ changes_in t (get_or tables i [])
  changes_at-place t n i [] at = refl
  changes_at-place t n zero (cs ∷ tables) at =
      let here : n ≡ t = omega (arith, at) in
      filter-append _ (changes_in n cs) (changes_from (suc n) tables)
      ∙ (λ i. changes_at (changes_in (here i) cs) t ++ at_later t (suc n) tables (omega (arith, at)) i)
      ∙ append-nil _ ∙ at_own t cs
  changes_at-place t n (suc i) (cs ∷ tables) at =
      filter-append _ (changes_in n cs) (changes_from (suc n) tables)
      ∙ ap (λ xs. xs ++ changes_at (changes_from (suc n) tables) t) (at_other t n cs (differ_below n t (omega (arith, at))))
      ∙ changes_at-place t (suc n) i tables (omega (arith, at))

  keys_in : (t : ℕ) (cs : List (KeyedChange A)) → map (λ x. x.key) (changes_in t cs) ≡ map (λ c. c.0) cs
  keys_in t [] = refl
  keys_in t (c ∷ cs) = ap (λ keys. c.0 ∷ keys) (keys_in t cs)

  -- where those in its place are by key, a table's changes are
  pub by_key-place : (t : ℕ) (tables : List (List (KeyedChange A))) (cs : List (KeyedChange A)) → get_or tables t [] ≡ cs → IsStrictlySortedBy value_cmp (map (λ c. c.0) cs) → IsByKey (changes_from 0 tables) t
  by_key-place t tables cs read sorted =
      subst (IsStrictlySortedBy value_cmp) (sym (ap (map (λ x. x.key)) (changes_at-place t 0 t tables (omega arith) ∙ ap (changes_in t) read) ∙ keys_in t cs)) sorted

  pub by_key-found : (t place : ℕ) (tables : List (List (KeyedChange A))) (cs : List (KeyedChange A)) → place ≡ t → cs ≡ get_or tables place [] → IsStrictlySortedBy value_cmp (map (λ c. c.0) cs) → IsByKey (changes_from 0 tables) t
  by_key-found t place tables cs same found sorted = by_key-place t tables cs (ap (λ n. get_or tables n []) (sym same) ∙ sym found) sorted

  pub by_key-absent : (t place : ℕ) (tables : List (List (KeyedChange A))) → place ≡ t → length tables ≤ place → IsByKey (changes_from 0 tables) t
  unfolding IsStrictlySortedBy
  by_key-absent t place tables same past = by_key-place t tables [] (ap (λ n. get_or tables n []) (sym same) ∙ get_or_past tables place [] past) tt

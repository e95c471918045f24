-- Changes of one table as a list by rising keys: what is found among them, and that they may be put in one after another.
use Rattle.std.proofs.Common.{◌≡◌, ℕ, zero, suc, ◌<◌, ◌==◌, Bool, true, false, cond, List, [], ◌∷◌, take, drop, length, get_or, set, map, Option, Some, None, IfSome, ◌&&◌, Bor, refl, sym, ap, subst, ◌∙◌, arith}
use Rattle.std.proofs.lemmas.Bool.Decides.{nat_tests}
use Rattle.std.specs.List.{AllByRecursion, find, slice_get}
use Rattle.std.specs.List.Sorted.{IsStrictlySortedBy}
use Rattle.std.specs.Option.{option_map, option_map_or}
use Rattle.std.specs.Ordering.{is_le, nat_cmp, ordering_then, match_ordering}
use Rattle.std.specs.declared.cmp.Ordering.TheVariants.{Less}
use Rattle.value.specs.declared.key.Key.{Key}
use Rattle.value.specs.declared.value.Value.{Value}
use Rattle.value.specs.Order.{value_cmp, value_cmp-exact}
use Rattle.value.proofs.Basics.{Equal-from_eq, Greater-from_le, all-at, all-weaker, eqb-self, nat_cmp-self}
use Rattle.schema.specs.declared.row.Row.{Row}
use Rattle.schema.specs.declared.reader.Bound.{Bound}
use Rattle.schema.specs.declared.changes.Change.{Change}
use Rattle.schema.specs.Changing.{change_cmp, put_change, new_row, change_of, next_change, changes_at, AreOfTable, IsByKey, TakesPlace}
use Rattle.schema.specs.Plain.{same}
use Rattle.schema.specs.Rows.{is_within}
use Rattle.schema.proofs.ChangingLemmas.{above_key}

-- the first that passes stands where the test turns
find-at : {X : Type 0} (test : X → Bool) (i : ℕ) (xs : List X) → AllByRecursion (λ x. test x ≡ false) (take i xs) → AllByRecursion (λ x. test x ≡ true) (drop i xs) → find test xs ≡ slice_get xs i
find-at test zero [] early late = refl
find-at test zero (x ∷ xs) early late = rw late.0 refl
find-at test (suc i) [] early late = refl
find-at test (suc i) (x ∷ xs) early late = rw early.0 (find-at test i xs early.1 late)

-- what is found at a place stands there
there : {X : Type 0} (xs : List X) (p : ℕ) (test : X → Bool) → option_map_or test (slice_get xs p) false ≡ true → p < length xs
there [] p test is = absurd cc
there (x ∷ xs) zero test is = omega arith
there (x ∷ xs) (suc p) test is = let rest = there xs p test is in omega arith

pub unequal : (t own : ℕ) → (t == own) ≡ false → (own == t) ≡ false
unequal t own other = grind (arith, nat_tests)

module _ {A : Type 0} where
  by_keys : (x y : Change A) → x.table ≡ y.table → change_cmp x y ≡ value_cmp x.key y.key
  by_keys x y same_table = ap (λ n. ordering_then (nat_cmp x.table n) (value_cmp x.key y.key)) (sym same_table) ∙ ap (λ o. ordering_then o (value_cmp x.key y.key)) (nat_cmp-self x.table)

  -- ---- what is found

  find-own : (t : ℕ) (test : Value A → Bool) (xs : List (Change A)) → AllByRecursion (λ x. x.table ≡ t) xs → find (λ x. x.table == t && test x.key) xs ≡ find (λ x. test x.key) xs
  find-own t test [] all = refl
  find-own t test (x ∷ xs) all =
      ap (λ b. cond (b && test x.key) (Some x) (find (λ y. y.table == t && test y.key) xs)) (ap (λ n. n == t) all.0 ∙ eqb-self t) ∙ by_test (test x.key) (find-own t test xs all.1)
    where
      by_test : (b : Bool) → find (λ x. x.table == t && test x.key) xs ≡ find (λ x. test x.key) xs → cond b (Some x) (find (λ x. x.table == t && test x.key) xs) ≡ cond b (Some x) (find (λ x. test x.key) xs)
      by_test true rest = refl
      by_test false rest = rest

  find-other : (own t : ℕ) (test : Value A → Bool) (xs : List (Change A)) → (own == t) ≡ false → AllByRecursion (λ x. x.table ≡ own) xs → find (λ x. x.table == t && test x.key) xs ≡ None
  find-other own t test [] other all = refl
  find-other own t test (x ∷ xs) other all = rw (all.0, other) (find-other own t test xs other all.1)

  -- what changes of a table say of one of its keys
  pub change_of-listed : (t : ℕ) (xs : List (Change A)) (k : Value A) → AreOfTable t xs → option_map new_row (find (λ x. same k x.key) xs) ≡ change_of xs t k
  change_of-listed t xs k of_table = ap (option_map new_row) (sym (find-own t (same k) xs of_table.0))

  -- and of a key of another
  pub change_of-other : (own t : ℕ) (xs : List (Change A)) (k : Value A) → (own == t) ≡ false → AreOfTable own xs → None ≡ change_of xs t k
  change_of-other own t xs k other of_table = ap (option_map new_row) (sym (find-other own t (same k) xs other of_table.0))

  -- the first within a bound, whose like tells the same of each key
  pub next_change-listed : (t : ℕ) (xs : List (Change A)) (bound like : Bound (Bor (Key A))) (i : ℕ) → AreOfTable t xs → ((k : Key A) → is_within like k ≡ is_within bound k)
      → AllByRecursion (λ x. is_within like x.key ≡ false) (take i xs) → AllByRecursion (λ x. is_within like x.key ≡ true) (drop i xs)
      → option_map {T = Change A} {U = Value A × Option (Row A)} (λ x. (x.key, new_row x)) (slice_get xs i) ≡ next_change xs t bound
  next_change-listed t xs bound like i of_table alike early late =
      let before = all-weaker (λ (x : Change A). is_within like x.key ≡ false) (λ x. is_within bound x.key ≡ false) (λ x is. sym (alike x.key) ∙ is) (take i xs) early in
      let within = all-weaker (λ (x : Change A). is_within like x.key ≡ true) (λ x. is_within bound x.key ≡ true) (λ x is. sym (alike x.key) ∙ is) (drop i xs) late in
      ap (option_map {T = Change A} {U = Value A × Option (Row A)} (λ x. (x.key, new_row x))) (sym (find-own t (is_within bound) xs of_table.0 ∙ find-at (λ x. is_within bound x.key) i xs before within))

  pub next_change-other : (own t : ℕ) (xs : List (Change A)) (bound : Bound (Bor (Key A))) → (own == t) ≡ false → AreOfTable own xs → None ≡ next_change xs t bound
  next_change-other own t xs bound other of_table = ap (option_map {T = Change A} {U = Value A × Option (Row A)} (λ x. (x.key, new_row x))) (sym (find-other own t (is_within bound) xs other of_table.0))

  -- ---- the order of keys

  all_kept : (own t : ℕ) (xs : List (Change A)) → (own == t) ≡ true → AllByRecursion (λ x. x.table ≡ own) xs → changes_at xs t ≡ xs
  all_kept own t [] is all = refl
  all_kept own t (x ∷ xs) is all = ap (λ b. cond b (x ∷ changes_at xs t) (changes_at xs t)) (ap (λ n. n == t) all.0 ∙ is) ∙ ap (λ ys. x ∷ ys) (all_kept own t xs is all.1)

  none_kept : (own t : ℕ) (xs : List (Change A)) → (own == t) ≡ false → AllByRecursion (λ x. x.table ≡ own) xs → changes_at xs t ≡ []
  none_kept own t [] is all = refl
  none_kept own t (x ∷ xs) is all = rw (all.0, is) (none_kept own t xs is all.1)

  pub by_key-listed : (own t : ℕ) (xs : List (Change A)) → AreOfTable own xs → IsByKey xs t
  unfolding IsStrictlySortedBy
  by_key-listed own t xs of_table = go (own == t) refl
    where
      go : (b : Bool) → (own == t) ≡ b → IsStrictlySortedBy value_cmp (map (λ x. x.key) (changes_at xs t))
      go true is = subst (λ ys. IsStrictlySortedBy value_cmp (map (λ x. x.key) ys)) (sym (all_kept own t xs is of_table.0)) of_table.1
      go false is = subst (λ ys. IsStrictlySortedBy value_cmp (map (λ x. x.key) ys)) (sym (none_kept own t xs is of_table.0)) tt

  -- ---- put in one after another

  key_below : (k : Value A) (xs : List (Change A)) (i : ℕ) (x : Change A) → AllByRecursion (λ l. value_cmp k l ≡ Less) (map (λ y. y.key) xs) → i < length xs → x ≡ get_or xs i x → value_cmp k x.key ≡ Less
  key_below k [] i x below lt is = absurd (omega arith)
  key_below k (y ∷ ys) zero x below lt is = subst (λ z. value_cmp k z.key ≡ Less) (sym is) below.0
  key_below k (y ∷ ys) (suc i) x below lt is = key_below k ys i x below.1 (omega arith) is

  table_of : (t : ℕ) (xs : List (Change A)) (i : ℕ) (x : Change A) → AllByRecursion (λ y. y.table ≡ t) xs → i < length xs → x ≡ get_or xs i x → x.table ≡ t
  table_of t xs i x all lt is = subst (λ z. z.table ≡ t) (sym is) (all-at (λ z. z.table ≡ t) xs i x lt all)

  -- with the change at i there is one more
  pub put_next : (t : ℕ) (xs : List (Change A)) (i : ℕ) (x : Change A) → AreOfTable t xs → i < length xs → x ≡ get_or xs i x → put_change (take i xs) x ≡ take (suc i) xs
  unfolding IsStrictlySortedBy
  put_next t [] i x of_table lt is = absurd (omega arith)
  put_next t (y ∷ ys) zero x of_table lt is = ap (λ z. z ∷ []) is
  put_next t (y ∷ ys) (suc i) x of_table lt is =
      let same_table : y.table ≡ x.table = of_table.0.0 ∙ sym (table_of t ys i x of_table.0.1 (omega arith) is) in
      rw (above_key x y same_table (key_below y.key ys i x of_table.1.0 (omega arith) is)) (ap (λ zs. y ∷ zs) (put_next t ys i x (of_table.0.1, of_table.1.1) (omega arith) is))

  -- the row that a change says is of its key
  pub key_of-new_row : (x : Change A) (row : Option (Row A)) (k : Value A) → row ≡ new_row x → k ≡ x.key → IfSome row (λ r. r.0 ≡ k)
  key_of-new_row x row k is same_key = subst (λ o. IfSome o (λ r. r.0 ≡ k)) (sym is) (go x.fields)
    where
      go : (o : Option (List (Value A))) → IfSome {T = Row A} (option_map (λ fields. (x.key, fields)) o) (λ r. r.0 ≡ k)
      go None = tt
      go (Some fields) = sym same_key

  -- ---- a change over that of its key

  keys_kept : (xs : List (Change A)) (x : Change A) (p : ℕ) → p < length xs → option_map_or (λ y. same x.key y.key) (slice_get xs p) false ≡ true → map (λ y. y.key) (set xs p x) ≡ map (λ y. y.key) xs
  keys_kept [] x p lt is = refl
  keys_kept (y ∷ ys) x zero lt is = ap (λ k. k ∷ map (λ z. z.key) ys) (value_cmp-exact x.key y.key (Equal-from_eq (value_cmp x.key y.key) is))
  keys_kept (y ∷ ys) x (suc p) lt is = ap (λ ks. y.key ∷ ks) (keys_kept ys x p (omega arith) is)

  tables_kept : (t : ℕ) (xs : List (Change A)) (x : Change A) (p : ℕ) → x.table ≡ t → AllByRecursion (λ y. y.table ≡ t) xs → AllByRecursion (λ y. y.table ≡ t) (set xs p x)
  tables_kept t [] x p own all = tt
  tables_kept t (y ∷ ys) x zero own all = (own, all.1)
  tables_kept t (y ∷ ys) x (suc p) own all = (all.0, tables_kept t ys x p own all.1)

  one_table : (t own : ℕ) (xs : List (Change A)) (p : ℕ) → p < length xs → AllByRecursion (λ y. y.table ≡ t) xs → AllByRecursion (λ y. y.table ≡ own) xs → t ≡ own
  one_table t own [] p lt all kept = absurd (omega arith)
  one_table t own (y ∷ ys) p lt all kept = sym all.0 ∙ kept.0

  put_set : (t : ℕ) (xs : List (Change A)) (x : Change A) (p : ℕ) → x.table ≡ t → AllByRecursion (λ y. y.table ≡ t) xs → AllByRecursion (λ y. is_le (value_cmp x.key y.key) ≡ false) (take p xs)
      → option_map_or (λ y. same x.key y.key) (slice_get xs p) false ≡ true → put_change xs x ≡ set xs p x
  put_set t [] x p own all before is = absurd cc
  put_set t (y ∷ ys) x zero own all before is =
      ap (λ o. match_ordering o (x ∷ y ∷ ys) (x ∷ ys) (y ∷ put_change ys x)) (by_keys x y (own ∙ sym all.0) ∙ Equal-from_eq (value_cmp x.key y.key) is)
  put_set t (y ∷ ys) x (suc p) own all before is =
      ap (λ o. match_ordering o (x ∷ y ∷ ys) (x ∷ ys) (y ∷ put_change ys x)) (by_keys x y (own ∙ sym all.0) ∙ Greater-from_le (value_cmp x.key y.key) before.0)
      ∙ ap (λ zs. y ∷ zs) (put_set t ys x p own all.1 before.1 is)

  -- a change of a key takes the place of the one there
  pub takes_place : (t : ℕ) (xs : List (Change A)) (k : Value A) (p : ℕ) → AreOfTable t xs → AllByRecursion (λ y. is_le (value_cmp k y.key) ≡ false) (take p xs) → option_map_or (λ y. same k y.key) (slice_get xs p) false ≡ true → TakesPlace t k xs p
  takes_place t xs k p of_table before is = (lt, λ x own at. put x own (subst (λ j. AllByRecursion (λ y. is_le (value_cmp j y.key) ≡ false) (take p xs)) (sym at) before) (subst (λ j. option_map_or (λ y. same j y.key) (slice_get xs p) false ≡ true) (sym at) is))
    where
      lt : p < length xs
      lt = there xs p (λ y. same k y.key) is

      put : (x : Change A) → x.table ≡ t → AllByRecursion (λ y. is_le (value_cmp x.key y.key) ≡ false) (take p xs) → option_map_or (λ y. same x.key y.key) (slice_get xs p) false ≡ true
          → (put_change xs x ≡ set xs p x) × ((own : ℕ) → AreOfTable own xs → AreOfTable own (set xs p x))
      put x is_own early at = (put_set t xs x p is_own of_table.0 early at, λ own kept. (tables_kept own xs x p (is_own ∙ one_table t own xs p lt of_table.0 kept.0) kept.0, subst (λ ks. IsStrictlySortedBy value_cmp ks) (sym (keys_kept xs x p lt at)) kept.1))

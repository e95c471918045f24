-- What a walk over the changes of a table gives: what the map or the list that holds them has left.
use Rattle.std.proofs.Common.{◌≡◌, ℕ, zero, suc, ◌+◌, ◌<◌, ◌==◌, ◌&&◌, Bool, true, false, cond, List, [], ◌∷◌, ◌++◌, map, take, drop, get_or, Option, Some, Bor, refl, sym, ap, ◌∙◌, arith, append-nil}
use Rattle.std.proofs.lemmas.Bool.Decides.{nat_tests}
use Rattle.std.proofs.lemmas.List.Elements.{filter-append}
use Rattle.std.specs.BTreeMap.Range.{entries_between}
use Rattle.std.specs.List.{AllByRecursion, filter, slice_get}
use Rattle.std.specs.declared.ops.Bound.{Bound as RangeBound}
use Rattle.std.specs.declared.ops.Bound.TheVariants as range
use Rattle.value.specs.declared.key.Key.{Key}
use Rattle.value.specs.declared.value.Value.{Value}
use Rattle.value.specs.Order.{value_cmp}
use Rattle.value.proofs.Basics.{all-weaker, eqb-self}
use Rattle.schema.specs.declared.row.Row.{Row}
use Rattle.schema.specs.declared.reader.Bound.{Bound}
use Rattle.schema.specs.declared.changes.Change.{Change}
use Rattle.schema.specs.Keyed.{start_of}
use Rattle.schema.specs.KeyedChange.{KeyedChange, shown_changes, own_rows}
use Rattle.schema.specs.Changing.{own_row, changes_in, changes_from, AreOfTable}
use Rattle.schema.specs.Coming.{said_of, coming, keyed_coming}
use Rattle.schema.specs.Rows.{is_within}
use Rattle.schema.proofs.KeyedLemmas.{within_is}

-- those that pass stand behind the place where the test turns
filter-at : {X : Type 0} (test : X → Bool) (i : ℕ) (xs : List X) → AllByRecursion (λ x. test x ≡ false) (take i xs) → AllByRecursion (λ x. test x ≡ true) (drop i xs) → filter test xs ≡ drop i xs
filter-at test zero [] early late = refl
filter-at test zero (x ∷ xs) early late = rw late.0 (ap (λ more. x ∷ more) (filter-at test zero xs tt late.1))
filter-at test (suc i) [] early late = refl
filter-at test (suc i) (x ∷ xs) early late = rw early.0 (filter-at test i xs early.1 late)

module _ {A : Type 0} where
  -- ---- of a map

  all-own : (bound : Bound (Bor (Key A))) (cs : List (KeyedChange A)) → entries_between value_cmp (start_of bound) range.Unbounded (own_rows cs) ≡ keyed_coming cs bound
  all-own bound [] = refl
  all-own bound (c ∷ cs) = rw (within_is bound c.0) (by_test (is_within bound c.0) (all-own bound cs))
    where
      shown : List (Value A × Option (Row A))
      shown = entries_between value_cmp (start_of bound) range.Unbounded (own_rows cs)

      by_test : (b : Bool) → shown ≡ keyed_coming cs bound → cond b ((c.0, own_row c) ∷ shown) shown ≡ map (λ d. (d.0, own_row d)) (cond b (c ∷ filter (λ d. is_within bound d.0) cs) (filter (λ d. is_within bound d.0) cs))
      by_test true rest = ap (λ more. (c.0, own_row c) ∷ more) rest
      by_test false rest = rest

  -- all changes of a map within a bound
  pub walk-shown : (entries : List (Value A × Option (Row A))) (bound : Bound (Bor (Key A))) (start : RangeBound (Value A)) (shown : List (Value A × Option (Row A))) → entries ≡ own_rows (shown_changes entries) → start ≡ start_of bound → shown ≡ entries_between value_cmp start range.Unbounded entries
      → shown ≡ keyed_coming (shown_changes entries) bound
  walk-shown entries bound start shown own from_start between =
      between ∙ ap (λ b. entries_between value_cmp b range.Unbounded entries) from_start ∙ ap (entries_between value_cmp (start_of bound) range.Unbounded) own
      ∙ all-own bound (shown_changes entries)

  -- ---- of the maps of all tables

  module _ (t : ℕ) (bound : Bound (Bor (Key A))) where
    abbrev chosen : List (Change A) → List (Change A)
    chosen xs = filter (λ x. x.table == t && is_within bound x.key) xs

    apart : (n : ℕ) → t < n → (n == t) ≡ false
    apart n before = grind (arith, nat_tests)

    apart_below : (n : ℕ) → n < t → (n == t) ≡ false
    apart_below n after = grind (arith, nat_tests)

    other_table : (n : ℕ) (cs : List (KeyedChange A)) → (n == t) ≡ false → chosen (changes_in n cs) ≡ []
    other_table n [] other = refl
    other_table n (c ∷ cs) other = rw other (other_table n cs other)

    none_later : (n : ℕ) (tables : List (List (KeyedChange A))) → t < n → chosen (changes_from n tables) ≡ []
    none_later n [] before = refl
    none_later n (cs ∷ tables) before =
        filter-append (λ x. x.table == t && is_within bound x.key) (changes_in n cs) (changes_from (suc n) tables)
        ∙ ap (λ xs. xs ++ chosen (changes_from (suc n) tables)) (other_table n cs (apart n before)) ∙ none_later (suc n) tables (omega arith)

    own_table : (cs : List (KeyedChange A)) → map said_of (chosen (changes_in t cs)) ≡ keyed_coming cs bound
    own_table [] = refl
    own_table (c ∷ cs) = rw (eqb-self t) (by_test (is_within bound c.0) (own_table cs))
      where
        by_test : (b : Bool) → map said_of (chosen (changes_in t cs)) ≡ keyed_coming cs bound
            → map said_of (cond b (record { table = t; key = c.0; fields = c.1 } ∷ chosen (changes_in t cs)) (chosen (changes_in t cs))) ≡ map (λ d. (d.0, own_row d)) (cond b (c ∷ filter (λ d. is_within bound d.0) cs) (filter (λ d. is_within bound d.0) cs))
        by_test true more = ap (λ zs. (c.0, own_row c) ∷ zs) more
        by_test false more = more

    coming_from : (n i : ℕ) (tables : List (List (KeyedChange A))) → t ≡ n + i → map said_of (chosen (changes_from n tables)) ≡ keyed_coming (get_or tables i []) bound
    coming_from n i [] at = refl
    coming_from n zero (cs ∷ tables) at =
        let here : n ≡ t = omega (arith, at) in
        let later : chosen (changes_from (suc n) tables) ≡ [] = none_later (suc n) tables (omega (arith, at)) in
        ap (map said_of) (
        filter-append (λ x. x.table == t && is_within bound x.key) (changes_in n cs) (changes_from (suc n) tables)
        ∙ ap (λ xs. chosen (changes_in n cs) ++ xs) later ∙ append-nil (chosen (changes_in n cs)) ∙ ap (λ m. chosen (changes_in m cs)) here)
        ∙ own_table cs
    coming_from n (suc i) (cs ∷ tables) at =
        ap (map said_of) (
        filter-append (λ x. x.table == t && is_within bound x.key) (changes_in n cs) (changes_from (suc n) tables)
        ∙ ap (λ xs. xs ++ chosen (changes_from (suc n) tables)) (other_table n cs (apart_below n (omega (arith, at)))))
        ∙ coming_from (suc n) i tables (omega (arith, at))

  -- those of a table are those that it has
  pub coming-table : (t : ℕ) (tables : List (List (KeyedChange A))) (bound : Bound (Bor (Key A))) → coming (changes_from 0 tables) t bound ≡ keyed_coming (get_or tables t []) bound
  coming-table t tables bound = coming_from t bound 0 t tables (omega arith)

  -- ---- of a list

  module _ (t : ℕ) (test : Value A → Bool) where
    kept-own : (xs : List (Change A)) → AllByRecursion (λ x. x.table ≡ t) xs → filter (λ x. x.table == t && test x.key) xs ≡ filter (λ x. test x.key) xs
    kept-own [] all = refl
    kept-own (x ∷ xs) all =
        ap (λ b. cond (b && test x.key) (x ∷ filter (λ y. y.table == t && test y.key) xs) (filter (λ y. y.table == t && test y.key) xs)) (ap (λ n. n == t) all.0 ∙ eqb-self t) ∙ by_test (test x.key) (kept-own xs all.1)
      where
        by_test : (b : Bool) → filter (λ y. y.table == t && test y.key) xs ≡ filter (λ y. test y.key) xs → cond b (x ∷ filter (λ y. y.table == t && test y.key) xs) (filter (λ y. y.table == t && test y.key) xs) ≡ cond b (x ∷ filter (λ y. test y.key) xs) (filter (λ y. test y.key) xs)
        by_test true rest = ap (λ more. x ∷ more) rest
        by_test false rest = rest

    kept-other : (own : ℕ) (xs : List (Change A)) → (own == t) ≡ false → AllByRecursion (λ x. x.table ≡ own) xs → filter (λ x. x.table == t && test x.key) xs ≡ []
    kept-other own [] other all = refl
    kept-other own (x ∷ xs) other all = rw (all.0, other) (kept-other own xs other all.1)

  -- those of a list behind the place of the first, whose like tells the same of each key
  pub coming-listed : (t : ℕ) (xs : List (Change A)) (bound like : Bound (Bor (Key A))) (i : ℕ) → AreOfTable t xs → ((k : Key A) → is_within like k ≡ is_within bound k)
      → AllByRecursion (λ x. is_within like x.key ≡ false) (take i xs) → AllByRecursion (λ x. is_within like x.key ≡ true) (drop i xs) → map said_of (drop i xs) ≡ coming xs t bound
  coming-listed t xs bound like i of_table alike early late =
      let before = all-weaker (λ (x : Change A). is_within like x.key ≡ false) (λ x. is_within bound x.key ≡ false) (λ x is. sym (alike x.key) ∙ is) (take i xs) early in
      let within = all-weaker (λ (x : Change A). is_within like x.key ≡ true) (λ x. is_within bound x.key ≡ true) (λ x is. sym (alike x.key) ∙ is) (drop i xs) late in
      ap (map said_of) (sym (kept-own t (is_within bound) xs of_table.0 ∙ filter-at (λ x. is_within bound x.key) i xs before within))

  -- a list of another table has none
  pub coming-other : (own t : ℕ) (xs : List (Change A)) (bound : Bound (Bor (Key A))) → (own == t) ≡ false → AreOfTable own xs → [] ≡ coming xs t bound
  coming-other own t xs bound other of_table = ap (map said_of) (sym (kept-other t (is_within bound) own xs other of_table.0))

  -- ---- one more

  pub first_left : (rest : List (Value A × Option (Row A))) (p : Value A × Option (Row A)) (more : List (Value A × Option (Row A))) → rest ≡ p ∷ more → (Some p ≡ slice_get rest 0) × (more ≡ drop 1 rest)
  first_left rest p more is = (ap (λ zs. slice_get zs 0) (sym is), ap (drop 1) (sym is))

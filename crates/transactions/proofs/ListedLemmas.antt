-- Changes of one table that are by key, as a list of their own.
use Rattle.std.proofs.Common.{◌≡◌, ◌==◌, ℕ, ◌≤◌, true, List, [], ◌∷◌, map, length, take, refl, sym, ap, subst, ◌∙◌}
use Rattle.std.proofs.lemmas.Bool.{and_parts, eqb-true}
use Rattle.std.proofs.lemmas.List.{take_all}
use Rattle.std.specs.List.{AllByRecursion, list_all}
use Rattle.std.specs.List.Sorted.{IsStrictlySortedBy}
use Rattle.std.specs.Ordering.{nat_cmp, ordering_then}
use Rattle.std.specs.declared.cmp.Ordering.TheVariants.{Less, Equal}
use Rattle.value.specs.Order.{value_cmp}
use Rattle.value.proofs.Basics.{nat_cmp-self}
use Rattle.schema.specs.declared.changes.Change.{Change}
use Rattle.schema.specs.Changing.{change_cmp, AreOfTable}
use Rattle.transactions.specs.Merged.{AreMerged}

module _ {A : Type 0} where
  tables_are : (t : ℕ) (xs : List (Change A)) → list_all (λ x. x.table == t) xs ≡ true → AllByRecursion (λ x. x.table ≡ t) xs
  tables_are t [] all = tt
  tables_are t (x ∷ xs) all =
      let p = and_parts (x.table == t) (list_all (λ y. y.table == t) xs) all in
      (eqb-true x.table t p.0, tables_are t xs p.1)

  keys_above : (t : ℕ) (x : Change A) (ys : List (Change A)) → x.table ≡ t → AllByRecursion (λ y. y.table ≡ t) ys → AllByRecursion (λ y. change_cmp x y ≡ Less) ys → AllByRecursion (λ k. value_cmp x.key k ≡ Less) (map (λ y. y.key) ys)
  keys_above t x [] is all above = tt
  keys_above t x (y ∷ ys) is all above =
      let equal : nat_cmp x.table y.table ≡ Equal = ap (nat_cmp x.table) (all.0 ∙ sym is) ∙ nat_cmp-self x.table in
      let less : value_cmp x.key y.key ≡ Less = sym (ap (λ o. ordering_then o (value_cmp x.key y.key)) equal) ∙ above.0 in
      (less, keys_above t x ys is all.1 above.1)

  keys_rise : (t : ℕ) (xs : List (Change A)) → AllByRecursion (λ x. x.table ≡ t) xs → IsStrictlySortedBy change_cmp xs → IsStrictlySortedBy value_cmp (map (λ x. x.key) xs)
  unfolding IsStrictlySortedBy
  keys_rise t [] all sorted = tt
  keys_rise t (x ∷ xs) all sorted = (keys_above t x xs all.0 all.1 sorted.0, keys_rise t xs all.1 sorted.1)

  -- they are of the table of the first
  pub one_table : (t : ℕ) (xs copy : List (Change A)) → list_all (λ x. x.table == t) xs ≡ true → IsStrictlySortedBy change_cmp xs → copy ≡ xs → AreOfTable t copy
  one_table t xs copy all sorted same =
      let tables = tables_are t xs all in
      subst (AreOfTable t) (sym same) (tables, keys_rise t xs tables sorted)

  -- and merged as they are
  pub merged-listed : (ys xs : List (Change A)) (n : ℕ) → ys ≡ xs → length xs ≤ n → IsStrictlySortedBy change_cmp xs → AreMerged ys (take n xs)
  merged-listed ys xs n same all sorted =
      let whole : take n xs ≡ xs = take_all n xs all in
      subst (λ zs. AreMerged ys zs) (sym whole) (subst (λ zs. AreMerged zs xs) (sym same) (record { by_key = sorted; keys = λ t k. refl; same = λ X order. refl }))

-- A key that stands at a place: those before it are lesser, and those from it on aren't.
use Rattle.std.proofs.Common.{◌≡◌, sym, ap, subst, ◌∙◌, ℕ, zero, suc, ◌≤◌, true, false, true≢false, [], ◌∷◌, take, drop, length, arith}
use Rattle.std.specs.Prelude.{slice_get}
use Rattle.std.specs.List.{AllByRecursion}
use Rattle.std.specs.List.Sorted.{IsStrictlySortedBy}
use Rattle.std.specs.Option.{option_map_or}
use Rattle.std.specs.Ordering.{is_le, ordering_reverse}
use Rattle.std.specs.declared.cmp.Ordering.TheVariants.{Less}
use Rattle.value.specs.Order.{value_cmp, value_cmp-total}
use Rattle.value.specs.declared.value.Value.{Value}
use Rattle.value.proofs.Basics.{Equal-from_eq, below-passed}
use Rattle.schema.specs.Plain.{same}
use Rattle.schema.proofs.PlainLemmas.{same_value}
use Rattle.mvrows.specs.Versions.{KeyVersions, VersionedRows, IsInOrder}
use Rattle.mvrows.proofs.VersionLemmas.{IsLeast}

module _ {A : Type 0} where
  -- a key stands at a place
  abbrev pub stands : Value A → VersionedRows A → ℕ → Type 0
  stands key rows i = option_map_or (λ k. same key k.key) (slice_get rows i) false ≡ true

  pub stands_within : (key : Value A) (rows : VersionedRows A) (i : ℕ) → stands key rows i → i ≤ length rows
  stands_within key rows i at = let lt = below-passed (λ (k : KeyVersions A). same key k.key) rows i at in omega (arith, lt)

  -- one that is below all is below it
  below_it : (x key : Value A) (rows : VersionedRows A) (i : ℕ) → IsLeast x rows → stands key rows i → value_cmp x key ≡ Less
  below_it x key [] i least at = absurd (true≢false (sym at))
  below_it x key (r ∷ rs) zero least at = subst (λ v. value_cmp x v ≡ Less) (sym (same_value key r.key at)) least.0
  below_it x key (r ∷ rs) (suc i) least at = below_it x key rs i least.1 at

  pub stands_before : (key : Value A) (rows : VersionedRows A) (i : ℕ) → IsInOrder rows → stands key rows i → AllByRecursion (λ k. is_le (value_cmp key k.key) ≡ false) (take i rows)
  unfolding IsStrictlySortedBy
  stands_before key [] i order at = absurd (true≢false (sym at))
  stands_before key (r ∷ rs) zero order at = tt
  stands_before key (r ∷ rs) (suc i) order at =
      (ap is_le (value_cmp-total.antisymm key r.key ∙ ap ordering_reverse (below_it r.key key rs i order.0 at)), stands_before key rs i order.1 at)

  all_above : (x : Value A) (rows : VersionedRows A) → IsLeast x rows → AllByRecursion (λ k. is_le (value_cmp x k.key) ≡ true) rows
  all_above x [] least = tt
  all_above x (r ∷ rs) least = (ap is_le least.0, all_above x rs least.1)

  pub stands_behind : (key : Value A) (rows : VersionedRows A) (i : ℕ) → IsInOrder rows → stands key rows i → AllByRecursion (λ k. is_le (value_cmp key k.key) ≡ true) (drop i rows)
  unfolding IsStrictlySortedBy
  stands_behind key [] i order at = absurd (true≢false (sym at))
  stands_behind key (r ∷ rs) zero order at =
      let key_is = same_value key r.key at in
      (ap is_le (Equal-from_eq (value_cmp key r.key) at), subst (λ v. AllByRecursion (λ (k : KeyVersions A). is_le (value_cmp v k.key) ≡ true) rs) (sym key_is) (all_above r.key rs order.0))
  stands_behind key (r ∷ rs) (suc i) order at = stands_behind key rs i order.1 at

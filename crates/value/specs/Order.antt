-- The order of values: null, then numbers, then texts by their bytes (as collation "C" has it), then byteas by their bytes.
use Rattle.std.specs.Prelude.{◌≡◌, ℕ, ℤ, pos, List, [], Bool}
use Rattle.std.specs.Cmp.{IsTotalOrder, IsEquivalence, int_cmp_total, nat_cmp_total}
use Rattle.std.specs.Cmp.Lexicographic.{slice_cmp}
use Rattle.std.specs.Ordering.{nat_cmp, int_cmp, on, then_cmp, eq_by_cmp, ordering_then}
use Rattle.std.specs.declared.cmp.Ordering.{Ordering}
use Rattle.std.specs.declared.cmp.Ordering.TheVariants.{Less, Equal, Greater}
use Rattle.std.proofs.Common.{refl, ap}
use Rattle.std.proofs.lemmas.Map.Lookups.{exact_signed, exact_bytes}
use Rattle.std.proofs.lemmas.Cmp.{on_total, then_total, nat_list_cmp_total, eq_by_cmp_equiv}
use Rattle.value.specs.declared.value.Value.{Value}
use Rattle.value.specs.declared.value.Value.TheVariants.{Null, Int, Text, Bytes}

-- an order that nothing breaks the ties of
tied_alone : (o : Ordering) → ordering_then o Equal ≡ Equal → o ≡ Equal
tied_alone Less tie = tie
tied_alone Equal tie = tie
tied_alone Greater tie = tie

module _ {A : Type 0} where
  -- the place of a value's kind
  abbrev pub rank : Value A → ℕ
  rank Null = 0
  rank (Int n) = 1
  rank (Text t) = 2
  rank (Bytes b) = 3

  -- the number of a bigint
  abbrev pub number : Value A → ℤ
  number (Int n) = n
  number Null = pos 0
  number (Text t) = pos 0
  number (Bytes b) = pos 0

  -- the bytes of a text or a bytea
  abbrev pub content : Value A → List ℕ
  content (Text t) = t
  content (Bytes b) = b
  content Null = []
  content (Int n) = []

  -- by kind, then by number, then by bytes
  abbrev pub value_cmp : Value A → Value A → Ordering
  value_cmp = then_cmp (on rank nat_cmp) (then_cmp (on number int_cmp) (on content (slice_cmp nat_cmp)))

  abbrev pub value_eq : Value A → Value A → Bool
  value_eq = eq_by_cmp value_cmp

  -- the order is total
  pub value_cmp-total : IsTotalOrder value_cmp
  value_cmp-total = then_total (on_total rank nat_cmp_total) (then_total (on_total number int_cmp_total) (on_total content nat_list_cmp_total))

  pub value_eq-equivalence : IsEquivalence value_eq
  value_eq-equivalence = eq_by_cmp_equiv value_cmp-total

  -- values that tie are one value
  pub value_cmp-exact : (x y : Value A) → value_cmp x y ≡ Equal → x ≡ y
  value_cmp-exact Null Null tie = refl
  value_cmp-exact Null (Int n) tie = cc
  value_cmp-exact Null (Text t) tie = cc
  value_cmp-exact Null (Bytes b) tie = cc
  value_cmp-exact (Int m) Null tie = cc
  value_cmp-exact (Int m) (Int n) tie = ap Int (exact_signed m n (tied_alone (int_cmp m n) tie))
  value_cmp-exact (Int m) (Text t) tie = cc
  value_cmp-exact (Int m) (Bytes b) tie = cc
  value_cmp-exact (Text s) Null tie = cc
  value_cmp-exact (Text s) (Int n) tie = cc
  value_cmp-exact (Text s) (Text t) tie = ap Text (exact_bytes s t tie)
  value_cmp-exact (Text s) (Bytes b) tie = cc
  value_cmp-exact (Bytes a) Null tie = cc
  value_cmp-exact (Bytes a) (Int n) tie = cc
  value_cmp-exact (Bytes a) (Text t) tie = cc
  value_cmp-exact (Bytes a) (Bytes b) tie = ap Bytes (exact_bytes a b tie)

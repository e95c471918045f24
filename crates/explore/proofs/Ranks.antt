-- Outcomes in the order of their ranks.
use Rattle.std.proofs.Common.{◌≡◌, refl, sym, ◌∙◌, ℕ, ◌+◌, ◌<◌, ◌≤◌, Bool, true, false, cond, eqb, ltb, nat_lt, List, length, get_or, take, arith}
use Rattle.std.specs.List.{sum_by}
use Rattle.std.specs.List.Sorted.{IsPermutation}
use Rattle.std.specs.Cmp.{IsStrictWeakOrder}
use Rattle.std.specs.Ordering.{is_lt, nat_cmp}
use Rattle.std.specs.declared.cmp.Ordering.TheVariants.{Less, Equal, Greater}
use Rattle.std.proofs.lemmas.Bool.Decides.{nat_tests}
use Rattle.std.proofs.lemmas.List.Recursion.{is_sum_by}
use Rattle.std.proofs.lemmas.List.Sorted.{IsStrictWeakOrder-by_number, IsStrictWeakOrder-flip, sum_by-IsPermutation}
use Rattle.std.proofs.lemmas.List.Sums.{sum_by-le-sum_by, sum_by_more_le}
use Rattle.explore.specs.Outcomes.{Counted, all_runs}
use Rattle.explore.specs.Listing.{has, has_more, runs_with}
use Rattle.explore.specs.declared.tally.listing.counting.Which.{Which}

pub is_less : (x y : ℕ) → is_lt (nat_cmp x y) ≡ nat_lt x y
is_less x y = go (nat_lt x y) (eqb x y)
  where
    go : (b c : Bool) → is_lt (cond b Less (cond c Equal Greater)) ≡ b
    go true c = refl
    go false true = refl
    go false false = refl

pub more_is_order : IsStrictWeakOrder has_more
more_is_order = IsStrictWeakOrder-flip (λ o p. ltb o.runs p.runs) (IsStrictWeakOrder-by_number (λ o. o.runs))

runs-sum : (os : List Counted) → all_runs os ≡ sum_by (λ o. o.runs) os
runs-sum os = is_sum_by all_runs (λ o. o.runs) refl (λ o ps. refl) os

-- ranked outcomes have as many runs
pub runs-ranked : (os ranked : List Counted) → IsPermutation os ranked → all_runs ranked ≡ all_runs os
runs-ranked os ranked p = runs-sum ranked ∙ sum_by-IsPermutation (λ o. o.runs) os ranked p ∙ sym (runs-sum os)

abbrev counted_in : Which → Counted → ℕ
counted_in w o = cond (has w o) o.runs 0

at_most : (w : Which) (o : Counted) → counted_in w o ≤ o.runs
at_most w o = go (has w o)
  where
    go : (b : Bool) → cond b o.runs 0 ≤ o.runs
    go true = omega arith
    go false = omega arith

-- the runs that are counted are no more than there are
pub room : (w : Which) (os : List Counted) (i : ℕ) (d : Counted) → i < length os → runs_with w (take i os) + cond (has w (get_or os i d)) (get_or os i d).runs 0 ≤ all_runs os
room w os i d h =
    omega (arith, sum_by_more_le (counted_in w) os i d h, sum_by-le-sum_by (counted_in w) (λ o. o.runs) os (at_most w), runs-sum os)

pub is_positive : (a b : ℕ) → a ≡ b → 0 < a → nat_lt 0 b ≡ true
is_positive a b e h = let p : 0 < b = omega (arith, e, h) in grind (arith, nat_tests)

pub is_none : (a b : ℕ) → a ≡ b → a ≤ 0 → nat_lt 0 b ≡ false
is_none a b e h = let p : b ≤ 0 = omega (arith, e, h) in grind (arith, nat_tests)

-- Which transactions are done: all before some place.
use Rattle.std.proofs.Common.{◌≡◌, ◌⊎◌, sym, ap, ◌∙◌, ℕ, ◌+◌, ◌<◌, ◌≤◌, Bool, true, false, List, min, inl, inr, slice_get, slice_set, Some, arith}
use Rattle.std.proofs.lemmas.Bool.{cases_eq, cases_lt}
use Rattle.orders.specs.Turns.{AreSet}
use Rattle.orders.proofs.PlaceLemmas.{get-other, get-set}

-- a set flag stays set where another is set
pub set-stays : (flags : List Bool) (place j : ℕ) → slice_get flags j ≡ Some true → slice_get (slice_set flags place true) j ≡ Some true
set-stays flags place j s = go (cases_eq j place)
  where
    go : (j ≡ place) ⊎ (j ≡ place → ⊥) → slice_get (slice_set flags place true) j ≡ Some true
    go (inl e) = ap (slice_get (slice_set flags place true)) e ∙ get-set flags place true true (ap (slice_get flags) (sym e) ∙ s)
    go (inr e) = get-other flags place j true e ∙ s

-- one more is done, and all from a place on up to another
pub set-more : (flags now : List Bool) (place first next : ℕ) → AreSet flags first → now ≡ slice_set flags place true → ((j : ℕ) → first ≤ j → j < next → slice_get now j ≡ Some true) → AreSet now next
set-more flags now place first next s e more j l = go (cases_lt j first)
  where
    go : (j < first) ⊎ (first ≤ j) → slice_get now j ≡ Some true
    go (inl k) = ap (λ x. slice_get x j) e ∙ set-stays flags place j (s j k)
    go (inr k) = more j k l

-- one isn't done any more
pub set-less : (flags now : List Bool) (place first : ℕ) → AreSet flags first → now ≡ slice_set flags place false → AreSet now (min first place)
set-less flags now place first s e j l = ap (λ x. slice_get x j) e ∙ get-other flags place j false (λ q. not-below j place (omega (arith, l)) q) ∙ s j (omega (arith, l))
  where
    not-below : (a b : ℕ) → a < b → a ≡ b → ⊥
    not-below a b l q = omega (arith, l, q)

-- one more flag that is set
pub next-set : (flags : List Bool) (from place : ℕ) → slice_get flags place ≡ Some true → ((j : ℕ) → from ≤ j → j < place → slice_get flags j ≡ Some true) → (j : ℕ) → from ≤ j → j < place + 1 → slice_get flags j ≡ Some true
next-set flags from place s h j f l = go (cases_eq j place)
  where
    go : (j ≡ place) ⊎ (j ≡ place → ⊥) → slice_get flags j ≡ Some true
    go (inl e) = ap (slice_get flags) e ∙ s
    go (inr e) = h j f (omega (arith, e, l))

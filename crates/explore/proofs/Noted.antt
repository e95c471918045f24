-- The place of an outcome, and its count with the runs of another.
use Rattle.std.proofs.Common.{◌≡◌, refl, ap, ◌∙◌, ℕ, zero, suc, ◌+◌, ◌<◌, ◌≤◌, ◌^◌, Bool, true, false, cond, ltb, List, [], ◌∷◌, ◌++◌, length, get_or, set, Some, None, arith}
use Rattle.std.specs.Prelude.{bytes_eq}
use Rattle.std.specs.List.{position, position_or_len}
use Rattle.std.proofs.lemmas.Bool.{ltb-false}
use Rattle.std.proofs.lemmas.List.Sums.{fails_before_first}
use Rattle.std.proofs.lemmas.List.Quantifiers.{position-Some}
use Rattle.explore.specs.Outcomes.{Counted, all_runs, merged}

-- the test that finds an outcome
abbrev pub has : List ℕ → Counted → Bool
has text o = bytes_eq o.text text

-- with k runs more
abbrev pub more : ℕ → Counted → Counted
more k o = record o { runs = o.runs + k }

pub merged_same : (o : Counted) (os : List Counted) (p : Counted) → bytes_eq o.text p.text ≡ true → merged (o ∷ os) p ≡ more p.runs o ∷ os
merged_same o os p e = ap (λ x. cond x (more p.runs o ∷ os) (o ∷ merged os p)) e

pub merged_other : (o : Counted) (os : List Counted) (p : Counted) → bytes_eq o.text p.text ≡ false → merged (o ∷ os) p ≡ o ∷ merged os p
merged_other o os p e = ap (λ x. cond x (more p.runs o ∷ os) (o ∷ merged os p)) e

merged-at : (os : List Counted) (p : Counted) (i : ℕ) (d : Counted) → i < length os → has p.text (get_or os i d) ≡ true → ((k : ℕ) → k < i → has p.text (get_or os k d) ≡ false) →
    merged os p ≡ set os i (more p.runs (get_or os i d))
merged-at [] p i d h e b = absurd (omega (arith, h))
merged-at (o ∷ os) p zero d h e b = merged_same o os p e
merged-at (o ∷ os) p (suc i) d h e b =
    merged_other o os p (b 0 (omega arith)) ∙ ap (λ x. o ∷ x) (merged-at os p i d (omega (arith, h)) e (λ k l. b (suc k) (omega (arith, l))))

merged-new : (os : List Counted) (p : Counted) (d : Counted) → ((k : ℕ) → k < length os → has p.text (get_or os k d) ≡ false) → merged os p ≡ os ++ p ∷ []
merged-new [] p d b = refl
merged-new (o ∷ os) p d b =
    merged_other o os p (b 0 (omega arith)) ∙ ap (λ x. o ∷ x) (merged-new os p d (λ k l. b (suc k) (omega (arith, l))))

-- by what `position` answers
pub merged_found : (os : List Counted) (p : Counted) (i : ℕ) (d : Counted) → position (has p.text) os ≡ Some i → merged os p ≡ set os i (more p.runs (get_or os i d))
merged_found os p i d e = let f : (i < length os) × (has p.text (get_or os i d) ≡ true) × ((k : ℕ) → k < i → has p.text (get_or os k d) ≡ false) = position-Some (has p.text) os i d e in merged-at os p i d f.0 f.1 f.2

pub merged_missed : (os : List Counted) (p : Counted) → position (has p.text) os ≡ None → merged os p ≡ os ++ p ∷ []
merged_missed os p e = merged-new os p p (λ k l. fails_before_first (has p.text) os k p (omega (arith, l, past (ltb (position_or_len (has p.text) os) (length os)) refl e)))
  where
    past : (b : Bool) → ltb (position_or_len (has p.text) os) (length os) ≡ b → cond b (Some (position_or_len (has p.text) os)) None ≡ None → length os ≤ position_or_len (has p.text) os
    past true q f = cc
    past false q f = ltb-false (position_or_len (has p.text) os) (length os) q

-- ---- how many runs there are

runs-within : (os : List Counted) (i : ℕ) (d : Counted) → i < length os → (get_or os i d).runs ≤ all_runs os
runs-within [] i d h = absurd (omega (arith, h))
runs-within (o ∷ os) zero d h = omega arith
runs-within (o ∷ os) (suc i) d h = omega (arith, runs-within os i d (omega (arith, h)))

-- there is room for the runs of another
pub room : (os : List Counted) (p : Counted) (i : ℕ) (d : Counted) → position (has p.text) os ≡ Some i → (get_or os i d).runs ≤ all_runs os
room os p i d e = let f : (i < length os) × (has p.text (get_or os i d) ≡ true) × ((k : ℕ) → k < i → has p.text (get_or os k d) ≡ false) = position-Some (has p.text) os i d e in runs-within os i d f.0

pub all_runs-merged : (os : List Counted) (p : Counted) → all_runs (merged os p) ≡ all_runs os + p.runs
all_runs-merged [] p = omega arith
all_runs-merged (o ∷ os) p = go (bytes_eq o.text p.text) (all_runs-merged os p)
  where
    go : (b : Bool) → all_runs (merged os p) ≡ all_runs os + p.runs → all_runs (cond b (more p.runs o ∷ os) (o ∷ merged os p)) ≡ o.runs + all_runs os + p.runs
    go true e = omega arith
    go false e = omega (arith, e)

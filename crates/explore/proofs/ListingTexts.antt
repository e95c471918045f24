-- The texts of outcomes, one after the other.
use Rattle.std.proofs.Common.{◌≡◌, ap, ℕ, ◌+◌, ◌<◌, Bool, List, ◌++◌, length, get_or, drop}
use Rattle.std.proofs.lemmas.List.{drop_more}
use Rattle.explore.specs.Outcomes.{Counted}
use Rattle.explore.specs.Listing.{outcome_text, outcomes_text}

-- the next outcome, and those after it
pub next_outcome : (shows : Bool) (orders : List (List ℕ)) (os : List Counted) (i : ℕ) (d : Counted) → i < length os →
    outcomes_text shows orders (i + 1) (drop i os) ≡ outcome_text shows orders (i + 1) (get_or os i d) ++ outcomes_text shows orders (i + 1 + 1) (drop (i + 1) os)
next_outcome shows orders os i d h = ap (outcomes_text shows orders (i + 1)) (drop_more os i d h)

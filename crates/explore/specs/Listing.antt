-- What is printed of the outcomes of schedules.
use Rattle.std.specs.Prelude.{◌≡◌, ℕ, ◌+◌, ◌==◌, nat_lt, if◌then◌else◌, Bool, true, false, Option, Some, None, List, [], ◌∷◌, ◌++◌, codes, slice_index_or, IsPermutation}
use Rattle.std.specs.Fmt.{decimal}
use Rattle.std.specs.List.{filter, flat_map, list_any, sum_by}
use Rattle.std.specs.List.Sorted.{IsSortedBy, IsStableBy}
use Rattle.explore.specs.Outcomes.{Counted}
use Rattle.explore.specs.Refusals.{refusals, sessions}
use Rattle.explore.specs.declared.tally.listing.heading.Heading.{Heading}
use Rattle.explore.specs.declared.tally.listing.heading.Heading.TheVariants.{Every, Sample}
use Rattle.explore.specs.declared.tally.listing.counting.Which.{Which}
use Rattle.explore.specs.declared.tally.listing.counting.Which.TheVariants.{Any, ByRow, ByCause, Session}

-- ---- the heading

-- a number of schedules, none where it is past the greatest u64
abbrev pub number_text : Option ℕ → List ℕ
number_text (Some n) = decimal n
number_text None = codes "more than 18446744073709551615"

abbrev pub heading_text : Heading → List ℕ
heading_text (Every n) = codes "schedules " ++ decimal n ++ codes "\n"
heading_text (Sample n all) = codes "sample " ++ decimal n ++ codes " of " ++ number_text all ++ codes "\n"

-- how many schedules were run
abbrev pub runs_told : Heading → ℕ
runs_told (Every n) = n
runs_told (Sample n all) = n

-- ---- an outcome

-- the texts of sessions, one after the other: the first follows one word, the others another
abbrev pub series : List ℕ → List ℕ → (ℕ → List ℕ) → List ℕ → List ℕ
series first later item [] = []
series first later item (s ∷ ss) = first ++ item s ++ series later later item ss

-- The sessions' order of a schedule: sessions count from 1, places from 0.
abbrev pub order_text : List ℕ → List ℕ
order_text order = codes "first:" ++ flat_map (λ p. codes " " ++ decimal (p + 1)) order ++ codes "\n"

-- where orders are shown, that of an outcome's first schedule
abbrev pub shown_order : Bool → List (List ℕ) → Counted → List ℕ
shown_order shows orders o = if shows then order_text (slice_index_or orders o.first []) else []

-- the head of an outcome of this rank: how many schedules lead to it, and which sessions it refuses
abbrev pub head_text : ℕ → Counted → List ℕ
head_text rank o =
    codes "outcome " ++ decimal rank ++ codes ": " ++ decimal o.runs ++ codes " schedules"
    ++ series (codes ", 40001 to session ") (codes ", session ") decimal (refusals o.text).sessions ++ codes "\n"

abbrev pub outcome_text : Bool → List (List ℕ) → ℕ → Counted → List ℕ
outcome_text shows orders rank o = head_text rank o ++ shown_order shows orders o ++ o.text

-- outcomes from this rank on
abbrev pub outcomes_text : Bool → List (List ℕ) → ℕ → List Counted → List ℕ
outcomes_text shows orders rank [] = []
outcomes_text shows orders rank (o ∷ os) = outcome_text shows orders rank o ++ outcomes_text shows orders (rank + 1) os

-- ---- how many schedules are refused

-- there is one
abbrev pub has_some : List ℕ → Bool
has_some [] = false
has_some (s ∷ ss) = true

-- an outcome has such a refusal
abbrev pub has : Which → Counted → Bool
has Any o = has_some (refusals o.text).sessions
has ByRow o = (refusals o.text).by_row
has ByCause o = (refusals o.text).by_cause
has (Session s) o = list_any (λ x. x == s) (refusals o.text).sessions

-- how many schedules lead to an outcome that has one
abbrev pub runs_with : Which → List Counted → ℕ
runs_with w os = sum_by (λ o. if has w o then o.runs else 0) os

-- a session, with how many schedules refuse it
abbrev pub share_text : List Counted → ℕ → List ℕ
share_text os s = decimal s ++ codes " in " ++ decimal (runs_with (Session s) os)

-- those that some outcome refuses
abbrev pub shares_text : List Counted → List ℕ
shares_text os = series (codes "; session ") (codes ", session ") (share_text os) (filter (λ s. nat_lt 0 (runs_with (Session s) os)) sessions)

-- which sessions schedules refuse, and how many refuse by a row, and how many by a cause
abbrev pub reasons_text : List Counted → List ℕ
reasons_text os = shares_text os ++ codes "; by a row " ++ decimal (runs_with ByRow os) ++ codes ", by a cause " ++ decimal (runs_with ByCause os)

abbrev pub totals_text : ℕ → List Counted → List ℕ
totals_text runs os = codes "refused: " ++ decimal (runs_with Any os) ++ codes " of " ++ decimal runs ++ codes " schedules" ++ reasons_text os ++ codes "\n"

-- ---- all outcomes

-- more schedules lead to the one than to the other
abbrev pub has_more : Counted → Counted → Bool
has_more o p = nat_lt p.runs o.runs

-- The outcomes by falling number of schedules, those of equally many in the order in which they were.
pub record IsRanked (os ranked : List Counted) : Type 0 where
  pub same : IsPermutation os ranked
  pub falling : IsSortedBy has_more ranked
  pub stable : IsStableBy has_more os ranked

-- the text of outcomes that are ranked
abbrev pub listing : Heading → Bool → List (List ℕ) → List Counted → List ℕ
listing h shows orders ranked = heading_text h ++ outcomes_text shows orders 1 ranked ++ totals_text (runs_told h) ranked

-- What is printed of these outcomes of schedules in these orders.
abbrev pub IsListed : Heading → Bool → List (List ℕ) → List Counted → List ℕ → Type 0
IsListed h shows orders os text = (ranked : List Counted) × IsRanked os ranked × (text ≡ listing h shows orders ranked)

-- The outcomes of many runs, and how many runs lead to each.
use Rattle.std.specs.Prelude.{◌≡◌, ℕ, ◌+◌, ◌<◌, ◌==◌, ◌&&◌, Bool, if◌then◌else◌, List, [], ◌∷◌, drop, length, take, slice_index_or, bytes_eq}
use Rattle.std.specs.List.{All}
use Rattle.explore.specs.Interleavings.{occurrences}

-- An outcome, as a text: how many runs lead to it, and the number of the first of these.
pub record Counted : Type 0 where
  pub text : List ℕ
  pub runs : ℕ
  pub first : ℕ

-- two texts are as long, and alike from a place on
abbrev pub end_alike : ℕ → List ℕ → List ℕ → Bool
end_alike n text other = length text == length other && bytes_eq (drop n text) (drop n other)

-- with the runs of another outcome, counted to those of the same text
abbrev pub merged : List Counted → Counted → List Counted
merged [] p = p ∷ []
merged (o ∷ os) p = if bytes_eq o.text p.text then record o { runs = o.runs + p.runs } ∷ os else o ∷ merged os p

-- with the outcomes of later runs
abbrev pub joined : List Counted → List Counted → List Counted
joined os [] = os
joined os (p ∷ ps) = joined (merged os p) ps

-- an outcome of one run, the n-th
abbrev pub single : List ℕ → ℕ → Counted
single text n = record { text = text; runs = 1; first = n }

-- with one more run, the n-th, that leads to this text
abbrev pub noted : List Counted → List ℕ → ℕ → List Counted
noted os text n = merged os (single text n)

-- with further runs, the first of them the n-th
abbrev pub noted_all : List Counted → List (List ℕ) → ℕ → List Counted
noted_all os [] n = os
noted_all os (text ∷ texts) n = noted_all (noted os text n) texts (n + 1)

-- the outcomes of runs that lead to these texts, the first of them the n-th, in the order of their first runs
abbrev pub outcomes_from : ℕ → List (List ℕ) → List Counted
outcomes_from n texts = noted_all [] texts n

-- the outcomes of runs that lead to these texts, in the order of their first runs
unfoldable pub outcomes : List (List ℕ) → List Counted
outcomes texts = outcomes_from 0 texts

-- how many runs there are in all
abbrev pub all_runs : List Counted → ℕ
all_runs [] = 0
all_runs (o ∷ os) = o.runs + all_runs os

-- how many runs lead to a text
abbrev pub runs_to : List ℕ → List Counted → ℕ
runs_to text [] = 0
runs_to text (o ∷ os) = (if bytes_eq o.text text then o.runs else 0) + runs_to text os

-- how many outcomes have a text
abbrev pub outcomes_with : List ℕ → List Counted → ℕ
outcomes_with text [] = 0
outcomes_with text (o ∷ os) = (if bytes_eq o.text text then 1 else 0) + outcomes_with text os

-- The first of the runs that lead to the outcome leads to it, and none before does.
abbrev pub IsFirst : List (List ℕ) → Counted → Type 0
IsFirst texts o = (o.first < length texts) × (slice_index_or texts o.first [] ≡ o.text) × (occurrences o.text (take o.first texts) ≡ 0)

-- These are outcomes of n runs: as many are counted, and the first of each is one of these.
abbrev pub AreOf : ℕ → List Counted → Type 0
AreOf n os = (all_runs os ≡ n) × All (λ o. o.first < n) os

-- How much was judged (this project's own format).
use Rattle.std.specs.Prelude.{◌≡◌, ℕ, ◌+◌, ◌==◌, Bool, true, not, if◌then◌else◌, List, [], ◌∷◌, ◌++◌, length, map, codes, Option, Some, None, is_some}
use Rattle.std.specs.Fmt.{decimal}
use Rattle.std.specs.List.{count_by, sum_by}
use Rattle.std.specs.List.Sorted.{IsNonDecreasing, IsPermutation}
use Rattle.orders.specs.Explains.{Trace}
use Rattle.transcript.specs.Reading.{Named}
use Rattle.judgement.specs.declared.counting.Counts.{Counts}

-- ---- how many different numbers there are

-- another number than the last, if there was one
abbrev pub is_new : Option ℕ → ℕ → Bool
is_new None n = true
is_new (Some last) n = not (last == n)

-- how many numbers are others than those before them
abbrev pub changes : Option ℕ → List ℕ → ℕ
changes last [] = 0
changes last (n ∷ ns) = (if is_new last n then 1 else 0) + changes (Some n) ns

-- There are so many different numbers: with all of them in order, so many are others than those before them.
abbrev pub IsHowMany : ℕ → List ℕ → Type 0
IsHowMany count ns = (sorted : List ℕ) × IsPermutation ns sorted × IsNonDecreasing sorted × (count ≡ changes None sorted)

-- ---- the line of counts

-- of so many transactions, sessions, statements and COMMITs without a reply
abbrev pub line_of : Counts → List ℕ
line_of c =
    codes "judged: transactions " ++ decimal c.transactions ++ codes ", sessions " ++ decimal c.sessions ++ codes ", statements " ++ decimal c.statements ++ codes ", without a reply to COMMIT " ++ decimal c.unanswered ++ codes "\n"

module _ {A : Type 0} where
  abbrev pub statements_of : Trace A → ℕ
  statements_of t = length t.statements

  -- its COMMIT has no reply
  abbrev pub is_unanswered : Trace A → Bool
  is_unanswered t = not (is_some t.end)

  -- These are the numbers of transactions, sessions and statements, and of COMMITs without a reply.
  pub record AreCounted (names : List Named) (ts : List (Trace A)) (c : Counts) : Type 0 where
    pub transactions : c.transactions ≡ length ts
    pub sessions : IsHowMany c.sessions (map (λ x. x.session) names)
    pub statements : c.statements ≡ sum_by statements_of ts
    pub unanswered : c.unanswered ≡ count_by is_unanswered ts

  -- The text is the line that says how much was judged.
  abbrev pub AreCounts : List Named → List (Trace A) → List ℕ → Type 0
  AreCounts names ts text = (c : Counts) × AreCounted names ts c × (text ≡ line_of c)

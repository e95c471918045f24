-- What the text of an outcome says of refusals that are to be tried again (40001).
-- Source: PostgreSQL's manual, "Serialization Failure Handling".
use Rattle.std.specs.Prelude.{ℕ, ◌-◌, ◌==◌, if◌then◌else◌, Bool, false, ◌||◌, Option, Some, None, List, [], ◌∷◌, ◌++◌, codes, bytes_eq, length, slice_get}
use Rattle.std.specs.Fmt.{decimal}
use Rattle.std.specs.List.{filter, list_any, range_with_len}

-- the lines of a text, each without its newline; the first has begun so
abbrev pub lines_from : List ℕ → List ℕ → List (List ℕ)
lines_from line [] = []
lines_from line (b ∷ bs) = if b == 10 then line ∷ lines_from [] bs else lines_from (line ++ b ∷ []) bs

abbrev pub lines : List ℕ → List (List ℕ)
lines text = lines_from [] text

-- a reply of a refusal, after the session's number: because of a row that another has written, and because of a dangerous structure
abbrev pub row_reply : List ℕ
row_reply = codes " ERROR 40001 row"

abbrev pub cause_reply : List ℕ
cause_reply = codes " ERROR 40001 cause"

-- these replies end so
abbrev pub ends_so : Option ℕ → Bool
ends_so None = false
ends_so (Some b) = b == 119 || b == 101

-- a line may be such a reply to a session
abbrev pub may_refuse : List ℕ → Bool
may_refuse l = ends_so (slice_get l (length l - 1))

-- one of the lines is this reply to the session
abbrev pub is_told : List ℕ → List (List ℕ) → ℕ → Bool
is_told reply ls s = list_any (λ l. bytes_eq l (decimal s ++ reply)) ls

-- one of the lines refuses the session
abbrev pub refuses : List (List ℕ) → ℕ → Bool
refuses ls s = is_told row_reply ls s || is_told cause_reply ls s

-- the sessions that there may be
unfoldable pub sessions : List ℕ
sessions = range_with_len 1 64

-- The sessions that are refused, and whether one is because of a row, and whether one is because of a dangerous structure.
pub record Refusals : Type 0 where
  pub sessions : List ℕ
  pub by_row : Bool
  pub by_cause : Bool

-- the refusals that a text has
abbrev pub refusals : List ℕ → Refusals
refusals text = record {
  sessions = filter (refuses (lines text)) sessions;
  by_row = list_any (is_told row_reply (lines text)) sessions;
  by_cause = list_any (is_told cause_reply (lines text)) sessions;
}

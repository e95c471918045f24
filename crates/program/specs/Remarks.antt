-- What `run --why` prints after a reply: why other transactions refuse what was asked for.
use Rattle.std.specs.Prelude.{◌≡◌, ℕ, nat_lt, Option, Some, None, List, [], ◌∷◌, ◌++◌, length, if◌then◌else◌}
use Rattle.value.specs.declared.refusal.Refusal.{Refusal}
use Rattle.statement.specs.declared.reply.Reply.{Reply}
use Rattle.statement.specs.declared.reply.Reply.TheVariants.{Refused}
use Rattle.history.specs.Opening.{Recorded}
use Rattle.history.specs.declared.event.Record.{Record}
use Rattle.retrace.specs.Explained.{Account, why_told}
use Rattle.retrace.specs.Lives.{is_failure_code}
use Rattle.retrace.specs.Past.{Bygone, after_all, retraced, unbegun}

-- A history, and for each of its events the line of the script that asked for it, where lines are noted.
pub record Noted (A : Type 0) : Type 0 where
  pub history : Recorded A
  pub lines : List ℕ

-- the lines of this number of events, with line n for the last of them, where that has none yet
abbrev pub with_line : ℕ → ℕ → List ℕ → List ℕ
with_line n events lines = if nat_lt (length lines) events then lines ++ n ∷ [] else lines

-- the lines of the events after a checkpoint: none, unless it was refused
abbrev pub lines_after : Option Refusal → List ℕ → List ℕ
lines_after None lines = []
lines_after (Some e) lines = lines

module _ {A : Type 0} where
  -- no lines are noted
  abbrev pub unnoted : Recorded A → Noted A
  unnoted h = record { history = h; lines = [] }

  -- ---- what a history's records tell

  -- all of them
  abbrev pub bygone : Recorded A → Bygone A
  bygone h = after_all h.opening.catalog h.opening.base.commits h.records (unbegun h.opening)

  -- what is known of the first records of a history
  abbrev pub IsFollowed : Recorded A → Bygone A → Type 0
  IsFollowed h p = (seen : List (Record A)) × (rest : List (Record A)) × (h.records ≡ seen ++ rest) × (p.place ≡ length seen) × (p ≡ bygone (record h { records = seen }))

  -- the account of a history whose events were asked for in these lines
  abbrev pub account_of : Recorded A → List ℕ → Account A
  account_of h lines = record { catalog = h.opening.catalog; base = h.opening.base.transactions; runs = retraced h.opening h.records; lines = lines }

  -- ---- remarks

  -- the refusal of a reply because of other transactions
  abbrev pub failure_of : Reply A → Option Refusal
  failure_of (Refused e) = if is_failure_code e.code then Some e else None
  failure_of _ = None

  -- why the transaction of session s is refused so, if it is
  abbrev pub remarks_from : Account A → ℕ → Option Refusal → List ℕ
  remarks_from a s None = []
  remarks_from a s (Some e) = why_told a s e

  -- the remarks after a reply of session s, by which the history has become this one
  abbrev pub remarks_on : Noted A → ℕ → Reply A → List ℕ
  remarks_on k s r = remarks_from (account_of k.history k.lines) s (failure_of r)

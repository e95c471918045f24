-- What is explored: the lines of sessions, in every interleaving, each from the state that one setup leaves.
-- Source: PostgreSQL's isolation tester (src/test/isolation/README), whose permutations are of its sessions' steps; the setup is done before each.
use Rattle.std.specs.Prelude.{◌≡◌, ℕ, zero, suc, ◌-◌, ◌==◌, ◌<◌, ◌≤◌, if◌then◌else◌, Option, Some, None, Result, Ok, Err, List, [], ◌∷◌, ◌++◌, length, map, sum}
use Rattle.std.specs.List.{filter}
use Rattle.value.specs.declared.refusal.Refusal.{Refusal}
use Rattle.schema.specs.Definition.{Catalog}
use Rattle.history.specs.declared.event.Action.{Action}
use Rattle.history.specs.declared.event.Record.{Record}
use Rattle.history.specs.Opening.{Recorded}
use Rattle.history.specs.Answer.{IsLegal, answer, checkpoint_answer}
use Rattle.serial.specs.Serializable.{IsSerializable}
use Rattle.session.specs.Core.{from_opening, recorded}
use Rattle.request.specs.Requests.{asked}
use Rattle.explore.specs.Interleavings.{interleavings}
use Rattle.explore.specs.declared.plan.Line.{Line}
use Rattle.explore.specs.Texts.{outcome_text}

-- The history that the setup leaves, and the lines that are explored, each with its session.
pub record Explored (A : Type 0) : Type 0 where
  pub setup : Recorded A
  pub lines : List (Line A)

-- the place of a session among all: sessions count from 1, places from 0
abbrev pub place_of : ℕ → ℕ
place_of s = s - 1

-- how many sessions there may be
abbrev pub sessions : ℕ
sessions = 64

module _ {A : Type 0} where
  -- ---- the lines of a session

  -- the lines of the session at a place, in its order
  abbrev pub own_lines : ℕ → List (Line A) → List (Line A)
  own_lines p lines = filter (λ l. place_of l.session == p) lines

  -- how many lines the session at a place has
  abbrev pub lines_of : ℕ → List (Line A) → ℕ
  lines_of p lines = length (own_lines p lines)

  -- how many each of the first n has
  unfoldable pub line_counts : List (Line A) → ℕ → List ℕ
  line_counts lines zero = []
  line_counts lines (suc p) = line_counts lines p ++ lines_of p lines ∷ []

  -- a line, where none is to be passed over before it; else what the later lines have
  abbrev pub this_or_later : ℕ → Line A → Option (Line A) → Option (Line A)
  this_or_later zero l later = Some l
  this_or_later (suc k) l later = later

  -- the line of the session at a place, after k others of its own
  abbrev pub own_line : ℕ → ℕ → List (Line A) → Option (Line A)
  own_line p k [] = None
  own_line p k (l ∷ lines) = if place_of l.session == p then this_or_later k l (own_line p (k - 1) lines) else own_line p k lines

  -- the events of the session at a place, in their order
  abbrev pub own_events : ℕ → List (Record A) → List (Record A)
  own_events p es = filter (λ e. place_of e.session == p) es

  -- how many of the events are of the session at a place
  abbrev pub events_of : ℕ → List (Record A) → ℕ
  events_of p es = length (own_events p es)

  -- ---- a run

  -- the history with a session's request, answered
  abbrev pub answered : Recorded A → ℕ → Action A → Recorded A
  answered h s a = recorded h s a (answer h.opening h.records s a)

  -- with a line done, where there is one
  abbrev pub done : Recorded A → Option (Line A) → Recorded A
  done h None = h
  done h (Some l) = answered h l.session (asked h.opening.catalog l.request)

  -- After a turn of the session at a place: its next line is done, which follows as many of its own as it has done.
  abbrev pub after_turn : List (Line A) → Recorded A → ℕ → Recorded A
  after_turn lines h p = done h (own_line p (events_of p h.records) lines)

  -- after the turns of an order
  abbrev pub after_turns : List (Line A) → Recorded A → List ℕ → Recorded A
  after_turns lines h [] = h
  after_turns lines h (p ∷ order) = after_turns lines (after_turn lines h p) order

  -- ---- what is explored

  -- how many turns an interleaving has
  abbrev pub turns_of : Explored A → ℕ
  turns_of e = sum (line_counts e.lines sessions)

  -- the history that each run begins with: it goes on from the tables and the numbers that the setup leaves, as after a checkpoint
  abbrev pub beginning : Explored A → Result (Recorded A) Refusal
  beginning e = from_opening (turns_of e) (checkpoint_answer e.setup.opening e.setup.records (turns_of e))

  -- all orders of the sessions' lines in which each session keeps its own
  abbrev pub schedules : Explored A → List (List ℕ)
  schedules e = interleavings (line_counts e.lines sessions)

  -- the outcome of a schedule from this beginning
  abbrev pub outcome_from : List (Line A) → List ℕ → Result (Recorded A) Refusal → List ℕ
  outcome_from lines order (Ok h) = outcome_text (after_turns lines h order)
  outcome_from lines order (Err r) = []

  -- The outcome of a schedule: the text of the history that it leads to.
  unfoldable pub outcome : Explored A → List ℕ → List ℕ
  outcome e order = outcome_from e.lines order (beginning e)

  -- the setup leaves a state with which runs can begin
  abbrev pub CanBegin : Explored A → Type 0
  CanBegin e = (h : Recorded A) × (beginning e ≡ Ok h)

  -- the history that a schedule leads to
  abbrev pub RunsTo : Explored A → List ℕ → Recorded A → Type 0
  RunsTo e order k = (h : Recorded A) × (beginning e ≡ Ok h) × (k ≡ after_turns e.lines h order)

  -- ---- that each line is done once

  -- the session of an event, and its action
  abbrev pub session_action : Record A → ℕ × Action A
  session_action e = (e.session, e.action)

  -- the session of a line, and the action that the line asks for, of this catalog's tables
  abbrev pub line_action : Catalog → Line A → ℕ × Action A
  line_action c l = (l.session, asked c l.request)

  -- A history does each line of each of the 64 sessions once, in the session's order, and nothing else.
  pub record DoesEachOnce (e : Explored A) (k : Recorded A) : Type 0 where
    pub each : (p : ℕ) → p < sessions → map session_action (own_events p k.records) ≡ map (line_action e.setup.opening.catalog) (own_lines p e.lines)
    pub only : (p : ℕ) → sessions ≤ p → own_events p k.records ≡ []

-- A serial order explains the text: it is that of a history in which each reply is the answer, and which has one.
abbrev pub IsExplained : Type 0 → List ℕ → Type 0
IsExplained A text = (h : Recorded A) × IsLegal h × IsSerializable h.opening h.records × (text ≡ outcome_text h)

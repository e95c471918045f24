-- The plan of a script: the lines of its setup are done, and the lines after it are explored; or why it has none.
use Rattle.std.specs.Prelude.{◌≡◌, ◌⊎◌, ℕ, ◌+◌, ◌-◌, Bool, true, false, List, [], ◌∷◌, ◌++◌, Option, Some, None, Ok, Err, drop, length, map, position, slice_get, take}
use Rattle.value.specs.Refusals.{of_code}
use Rattle.value.specs.declared.refusal.Refusal.{Refusal}
use Rattle.value.specs.declared.refusal.Code.{Code}
use Rattle.value.specs.declared.refusal.Code.TheVariants.{OutOfMemory, ProgramLimitExceeded}
use Rattle.statement.specs.declared.reply.Reply.TheVariants.{Refused as Refused_reply}
use Rattle.history.specs.declared.event.Action.{Action}
use Rattle.history.specs.Answer.{answer, checkpoint_answer, is_refused}
use Rattle.history.specs.Opening.{Recorded}
use Rattle.session.specs.Core.{IsCheckpoint, from_opening}
use Rattle.request.specs.Requests.{asked}
use Rattle.script.specs.declared.command.Command.TheVariants.{Ask}
use Rattle.script.specs.declared.script.Step.{Step}
use Rattle.script.specs.declared.script.Step.TheVariants.{Session, Checkpoint}
use Rattle.script.specs.declared.script.Line.{Line}
use Rattle.explore.specs.declared.plan.Line.{Line as Explored_line}
use Rattle.explore.specs.declared.setup.Turn.{Turn}
use Rattle.explore.specs.declared.setup.Unplanned.{Unplanned}
use Rattle.explore.specs.declared.setup.Unplanned.TheVariants.{Memory, NoLines, NoTurn, Refused}
use Rattle.explore.specs.Explored.{Explored, answered}

-- memory ran out
abbrev pub ran_out : Unplanned
ran_out = Memory

-- why a script has no plan, of which the line with this number is refused
abbrev pub fault_of : ℕ → Code → Unplanned
fault_of n OutOfMemory = Memory
fault_of n code = Refused n code

module _ {A : Type 0} where
  -- ---- the lines of a setup

  abbrev pub is_checkpoint : Step A → Bool
  is_checkpoint Checkpoint = true
  is_checkpoint _ = false

  -- A line of a setup took h to k: a session's request, which was answered and not refused.
  abbrev pub IsTaken : Recorded A → Step A → Recorded A → Type 0
  IsTaken h (Session s (Ask q)) k = (is_refused (answer h.opening h.records s (asked h.opening.catalog q)) ≡ false) × (k ≡ answered h s (asked h.opening.catalog q))
  IsTaken h _ k = ⊥

  -- the lines of a setup, one after the other
  abbrev pub AreTaken : Recorded A → List (Line A) → Recorded A → Type 0
  AreTaken h [] k = k ≡ h
  AreTaken h (line ∷ more) k = (m : Recorded A) × IsTaken h line.step m × AreTaken m more k

  -- ---- the lines after it

  -- what is explored of a step: a session's request
  abbrev pub explored_of : Step A → Option (Explored_line A)
  explored_of (Session s (Ask q)) = Some (record { session = s; request = q })
  explored_of _ = None

  -- whose turn a line is, and its number in the script
  abbrev pub turn_at : ℕ → Option (Explored_line A) → Option Turn
  turn_at number (Some l) = Some (record { session = l.session; number = number })
  turn_at number None = None

  abbrev pub turn_of : Line A → Option Turn
  turn_of line = turn_at line.number (explored_of line.step)

  -- These are what is explored of the lines, and their turns.
  abbrev pub AreExplored : List (Line A) → List (Explored_line A) → List Turn → Type 0
  AreExplored lines explored turns = (map (λ l. explored_of l.step) lines ≡ map Some explored) × (map turn_of lines ≡ map Some turns)

  -- The lines are explored from what the history h leaves, in these turns.
  abbrev pub ArePlanned : Recorded A → List (Line A) → Explored A → List Turn → Type 0
  ArePlanned h lines e turns = (e.setup ≡ h) × AreExplored lines e.lines turns

  -- ---- a script's lines

  -- the place of the first checkpoint
  abbrev pub place_of_checkpoint : List (Line A) → Option ℕ
  place_of_checkpoint lines = position (λ l. is_checkpoint l.step) lines

  -- The lines before this place were done, the history went on from the tables that they left, and the lines after it are explored.
  abbrev pub SetsUpAt : ℕ → ℕ → Recorded A → List (Line A) → Explored A → List Turn → Type 0
  SetsUpAt place most h lines e turns = (k : Recorded A) × (m : Recorded A) × AreTaken h (take place lines) k × IsCheckpoint k most (Ok m) × ArePlanned m (drop (place + 1) lines) e turns

  -- The setup are the lines before the first checkpoint; without one, there is none, and all lines are explored.
  abbrev pub SetsUpFrom : Option ℕ → ℕ → Recorded A → List (Line A) → Explored A → List Turn → Type 0
  SetsUpFrom (Some place) most h lines e turns = SetsUpAt place most h lines e turns
  SetsUpFrom None most h lines e turns = ArePlanned h lines e turns

  -- The lines that follow the history h were set up: what is explored then is e, in turns of sessions.
  abbrev pub SetsUp : ℕ → Recorded A → List (Line A) → Explored A → List Turn → Type 0
  SetsUp most h lines e turns = SetsUpFrom (place_of_checkpoint lines) most h lines e turns

  -- the number before that of the first line
  abbrev pub before_first : List (Line A) → ℕ
  before_first [] = 0
  before_first (line ∷ more) = line.number - 1

  abbrev pub number_of : Option (Line A) → ℕ
  number_of (Some line) = line.number
  number_of None = 0

  -- the number of the line that ends the setup: the checkpoint's, or the one before the first line
  abbrev pub last_from : Option ℕ → List (Line A) → ℕ
  last_from (Some place) lines = number_of (slice_get lines place)
  last_from None lines = before_first lines

  abbrev pub last_of : List (Line A) → ℕ
  last_of lines = last_from (place_of_checkpoint lines) lines

  -- ---- why a script has no plan

  -- The action of session s is refused after the history h: by its answer, or since the history is full.
  abbrev pub Refuses : Recorded A → ℕ → Action A → Refusal → Type 0
  Refuses h s a e = (answer h.opening h.records s a ≡ Refused_reply e) ⊎ ((length h.records ≡ h.most) × (e ≡ of_code ProgramLimitExceeded))

  -- The step of the line with this number isn't done after the history h, and why: what its session asks for is refused; or no session asks for anything.
  abbrev pub StopsAt : Recorded A → ℕ → Step A → Unplanned → Type 0
  StopsAt h n (Session s (Ask q)) why = (e : Refusal) × Refuses h s (asked h.opening.catalog q) e × (why ≡ fault_of n e.code)
  StopsAt h n _ why = why ≡ NoTurn n

  -- One of a setup's lines isn't done; those before it were.
  abbrev pub Stops : Recorded A → List (Line A) → Unplanned → Type 0
  Stops h lines why = (place : ℕ) × (line : Line A) × (m : Recorded A) × (slice_get lines place ≡ Some line) × AreTaken h (take place lines) m × StopsAt m line.number line.step why

  -- The first line that isn't explored is this, since no session asks for anything in it.
  abbrev pub LacksItsTurn : Line A → Unplanned → Type 0
  LacksItsTurn line why = (explored_of line.step ≡ None) × (why ≡ NoTurn line.number)

  abbrev pub LacksTurn : List (Line A) → Unplanned → Type 0
  LacksTurn lines why = (before : List (Line A)) × (line : Line A) × (after : List (Line A)) × (lines ≡ before ++ line ∷ after) × ((e : List (Explored_line A)) × (turns : List Turn) × AreExplored before e turns) × LacksItsTurn line why

  -- No line is to be explored, or one of them isn't.
  abbrev pub LacksPlan : List (Line A) → Unplanned → Type 0
  LacksPlan lines why = (lines ≡ []) × (why ≡ NoLines) ⊎ LacksTurn lines why

  -- The checkpoint of the line with this number is refused after the history h.
  abbrev pub RefusesCheckpoint : ℕ → Recorded A → ℕ → Unplanned → Type 0
  RefusesCheckpoint most h n why = (e : Refusal) × (from_opening most (checkpoint_answer h.opening h.records most) ≡ Err e) × (why ≡ fault_of n e.code)

  -- What stands in the way of a setup that ends with a checkpoint at this place: a line before it, the checkpoint itself, or the lines after it.
  abbrev pub UnplannedAt : ℕ → ℕ → Recorded A → List (Line A) → Unplanned → Type 0
  UnplannedAt place most h lines why = Stops h (take place lines) why
      ⊎ ((k : Recorded A) × AreTaken h (take place lines) k × (RefusesCheckpoint most k (number_of (slice_get lines place)) why ⊎ LacksPlan (drop (place + 1) lines) why))

  abbrev pub UnplannedFrom : Option ℕ → ℕ → Recorded A → List (Line A) → Unplanned → Type 0
  UnplannedFrom (Some place) most h lines why = UnplannedAt place most h lines why
  UnplannedFrom None most h lines why = LacksPlan lines why

  -- Why the lines that follow the history h have no plan: memory ran out, or this is so.
  abbrev pub IsUnplanned : ℕ → Recorded A → List (Line A) → Unplanned → Type 0
  IsUnplanned most h lines why = (why ≡ Memory) ⊎ UnplannedFrom (place_of_checkpoint lines) most h lines why

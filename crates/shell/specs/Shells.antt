-- What a shell answers to each line, before it reads the next.
use Rattle.std.specs.Prelude.{◌≡◌, ◌⊎◌, ℕ, ◌==◌, Bool, true, false, not, ◌||◌, Option, Some, None, is_some, Result, Ok, Err, List, [], ◌∷◌, ◌++◌, length, codes, if◌then◌else◌}
use Rattle.std.specs.List.{list_all}
use Rattle.value.specs.declared.refusal.Refusal.{Refusal}
use Rattle.schema.specs.Definition.{Catalog}
use Rattle.schema.specs.Inserting.{empty_tables}
use Rattle.history.specs.Opening.{Recorded, zero_base}
use Rattle.session.specs.Core.{IsCheckpoint}
use Rattle.asking.specs.Asking.{Tells}
use Rattle.asking.specs.Checkpoints.{refused_text}
use Rattle.script.specs.Telling.{is_printable}
use Rattle.script.specs.Scripts.{Said, is_passed_over, said}
use Rattle.script.specs.declared.command.Command.TheVariants.{Ask, Wait, Dump}
use Rattle.script.specs.declared.script.Step.{Step}
use Rattle.script.specs.declared.script.Step.TheVariants.{Session, Checkpoint}
use Rattle.script.specs.declared.script.Line.{Line}
use Rattle.script.specs.declared.schedule.Schedule.TheVariants.{InOrder}

-- a line with its newline
abbrev pub ended : List ℕ → List ℕ
ended line = line ++ codes "\n"

-- the line by which a line is refused, with these words
abbrev pub refusal_of_words : List ℕ → List ℕ
refusal_of_words words = codes "ERROR 42601 " ++ words ++ codes "\n"

-- A line is refused: by one line, whose words a terminal shows.
abbrev pub IsRefusal : List ℕ → Type 0
IsRefusal text = (words : List ℕ) × (list_all is_printable words ≡ true) × (text ≡ refusal_of_words words)

-- what is answered to a line that a table was made by
abbrev pub created_text : List ℕ
created_text = codes "CREATE TABLE\n"

-- What a shell holds: the lines so far that create tables, until a session's line comes; the history from then on; and for how many events it has room.
pub record Held (A : Type 0) : Type 0 where
  pub created : List ℕ
  pub core : Option (Recorded A)
  pub most : ℕ

module _ {A : Type 0} where
  -- The history h is refused a line: it is as it was.
  abbrev pub Refuses : Recorded A → Recorded A → List ℕ → Type 0
  Refuses h k text = (k ≡ h) × IsRefusal text

  -- The history h goes on, as k, from the tables that it leaves.
  abbrev pub GoesOn : ℕ → Recorded A → Recorded A → List ℕ → Type 0
  GoesOn most h k text = IsCheckpoint h most (Ok k) × (text ≡ codes "CHECKPOINT\n")

  -- The history doesn't go on, for this refusal.
  abbrev pub Stays : ℕ → Recorded A → Recorded A → List ℕ → Type 0
  Stays most h k text = (e : Refusal) × IsCheckpoint h most (Err (k, e)) × (text ≡ refused_text e)

  -- A step was done: the history h has become k, and the text is what is answered.
  abbrev pub Does : ℕ → Recorded A → Step A → Recorded A → List ℕ → Type 0
  Does most h (Session s (Ask q)) k text = Tells h k s q text
  Does most h (Session s Wait) k text = Refuses h k text
  Does most h (Session s (Dump d)) k text = Refuses h k text
  Does most h Checkpoint k text = GoesOn most h k text ⊎ Stays most h k text

  -- The step of a line was done, where it has one.
  abbrev pub DoesLine : ℕ → Recorded A → List (Line A) → Recorded A → List ℕ → Type 0
  DoesLine most h [] k text = (k ≡ h) × (text ≡ [])
  DoesLine most h (line ∷ more) k text = Does most h line.step k text

  -- what may come only before the first session's line
  abbrev pub is_opening : Said A → Bool
  is_opening s = is_some s.opens || not (length s.catalog == 0)

  abbrev pub RunsUnless : Bool → ℕ → Recorded A → List (Line A) → Recorded A → List ℕ → Type 0
  RunsUnless true most h lines k text = Refuses h k text
  RunsUnless false most h lines k text = DoesLine most h lines k text

  -- What a line says as a script of its own was done, or it was refused.
  abbrev pub Runs : ℕ → Recorded A → Result (Said A) ℕ → Recorded A → List ℕ → Type 0
  Runs most h (Err n) k text = Refuses h k text
  Runs most h (Ok s) k text = RunsUnless (is_opening s) most h s.lines k text

  -- the history of some tables without rows, before any event
  abbrev pub begun : Catalog → ℕ → Recorded A
  begun c most = record { opening = record { catalog = c; tables = empty_tables c; base = zero_base }; records = []; most = most }

  -- what a shell holds whose server runs on a core
  abbrev pub running : Recorded A → ℕ → Held A
  running h most = record { created = []; core = Some h; most = most }

  -- what a shell holds before its server runs
  abbrev pub opening : List ℕ → ℕ → Held A
  opening created most = record { created = created; core = None; most = most }

  -- The step of a line was done, where it has one: the history h has become the one that is held.
  abbrev pub DoesLineInto : ℕ → Recorded A → List (Line A) → Option (Recorded A) → List ℕ → Type 0
  DoesLineInto most h lines None text = ⊥
  DoesLineInto most h lines (Some k) text = DoesLine most h lines k text

  -- What a line says as a script of its own was done: the history h has become the one that is held.
  abbrev pub RunsInto : ℕ → Recorded A → Result (Said A) ℕ → Option (Recorded A) → List ℕ → Type 0
  RunsInto most h said None text = ⊥
  RunsInto most h said (Some k) text = Runs most h said k text

  -- Where there is nothing to be done, the line creates a table, and all such lines so far are kept; else it is the first of a session, and the server runs from then on.
  abbrev pub Begins : Bool → List ℕ → ℕ → Catalog → List (Line A) → Held A → List ℕ → Type 0
  Begins true whole most c steps q text = (q ≡ opening whole most) × (text ≡ created_text)
  Begins false whole most c steps q text = (q.most ≡ most) × DoesLineInto most (begun c most) steps q.core text

  abbrev pub OpensUnless : Bool → List ℕ → List ℕ → ℕ → Said A → Held A → List ℕ → Type 0
  OpensUnless true created whole most s q text = (q ≡ opening created most) × IsRefusal text
  OpensUnless false created whole most s q text = Begins (length s.lines == 0) whole most s.catalog s.lines q text

  -- A line was answered before the server runs, where the lines so far and this one say so much as a script; or it was refused, and nothing has changed.
  abbrev pub Opens : List ℕ → List ℕ → ℕ → Result (Said A) ℕ → Held A → List ℕ → Type 0
  Opens created whole most (Err n) q text = (q ≡ opening created most) × IsRefusal text
  Opens created whole most (Ok s) q text = OpensUnless (is_some s.opens) created whole most s q text

  abbrev pub AnswersIn : Option (Recorded A) → List ℕ → ℕ → List ℕ → Held A → List ℕ → Type 0
  AnswersIn None created most line q text = Opens created (created ++ ended line) most (said InOrder (created ++ ended line)) q text
  AnswersIn (Some h) created most line q text = (q.most ≡ most) × RunsInto most h (said InOrder (ended line)) q.core text

  abbrev pub AnswersUnless : Bool → Held A → List ℕ → Held A → List ℕ → Type 0
  AnswersUnless true p line q text = (q ≡ p) × (text ≡ [])
  AnswersUnless false p line q text = AnswersIn p.core p.created p.most line q text

  -- A shell that held p answers a line with this text, and holds q then. The answer to an empty line, or to a comment of any bytes, is empty.
  abbrev pub Answers : Held A → List ℕ → Held A → List ℕ → Type 0
  Answers p line q text = AnswersUnless (is_passed_over line) p line q text

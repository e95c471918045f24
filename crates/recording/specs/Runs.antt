-- The lines of a script, done one after the other, as events of one history; and the transcript of them.
use Rattle.std.specs.Prelude.{◌≡◌, ◌⊎◌, ℕ, ◌<◌, ◌^◌, nat_lt, Bool, true, ◌&&◌, List, [], ◌∷◌, ◌++◌, codes, length, Ok}
use Rattle.std.specs.List.{list_all}
use Rattle.value.specs.Codes.{sqlstate}
use Rattle.value.specs.declared.refusal.Refusal.{Refusal}
use Rattle.value.specs.declared.value.Value.{Value}
use Rattle.value.specs.declared.value.Value.TheVariants.{Int}
use Rattle.schema.specs.Definition.{Catalog}
use Rattle.schema.specs.Plain.{in_range}
use Rattle.statement.specs.declared.reply.Reply.{Reply}
use Rattle.statement.specs.declared.reply.Reply.TheVariants.{Updated, Deleted, Rows, Safe, Exported, Refused}
use Rattle.history.specs.Answer.{Legal, is_refused}
use Rattle.history.specs.Events.{world_of}
use Rattle.history.specs.Opening.{Opening}
use Rattle.history.specs.Transactions.{World}
use Rattle.history.specs.declared.event.Action.{Action}
use Rattle.history.specs.declared.event.Record.{Record}
use Rattle.orders.specs.Explains.{Trace}
use Rattle.request.specs.Requests.{asked as action_of}
use Rattle.request.specs.declared.request.Request.TheVariants.{Commit, Poll}
use Rattle.script.specs.Printing.{done_text, reply_text}
use Rattle.script.specs.Scripts.{Said, said}
use Rattle.script.specs.Transcribing.{answered, asked, line_at, lines, tables_asked}
use Rattle.script.specs.declared.command.Command.{Command}
use Rattle.script.specs.declared.command.Command.TheVariants as command
use Rattle.script.specs.declared.schedule.Schedule.TheVariants.{InOrder}
use Rattle.script.specs.declared.script.Line.{Line}
use Rattle.script.specs.declared.script.Step.{Step}
use Rattle.script.specs.declared.script.Step.TheVariants.{Session, Checkpoint}
use Rattle.transcript.specs.Opening.{opening}
use Rattle.transcript.specs.Reading.{Named, traces}

module _ {A : Type 0} where
  -- ---- replies whose numbers are those of 64 bits, as a program has them

  abbrev pub is_small : Value A → Bool
  is_small (Int n) = in_range n
  is_small _ = true

  -- no row is without fields
  abbrev pub is_small_row : List (Value A) → Bool
  is_small_row row = nat_lt 0 (length row) && list_all is_small row

  abbrev pub IsSmall : Reply A → Type 0
  IsSmall (Updated n) = n < 2 ^ 64
  IsSmall (Deleted n) = n < 2 ^ 64
  IsSmall (Rows rows) = (length rows < 2 ^ 64) × (list_all is_small_row rows ≡ true)
  IsSmall (Safe n) = n < 2 ^ 64
  IsSmall (Exported n) = n < 2 ^ 64
  IsSmall _ = Unit {0}

  -- ---- lines

  -- After the events es an action of session s was answered, and the events have become fs: by one event more; or it was refused before there was an event, as where the history is full or there is no memory.
  abbrev pub Goes : List (Record A) → List (Record A) → ℕ → Action A → Reply A → Type 0
  Goes es fs s a r = (fs ≡ es ++ record { session = s; action = a; reply = r } ∷ []) ⊎ ((is_refused r ≡ true) × (fs ≡ es))

  abbrev pub Replies : List (Record A) → List (Record A) → ℕ → Action A → List ℕ → Type 0
  Replies es fs s a text = (r : Reply A) × IsSmall r × Goes es fs s a r × (text ≡ reply_text s r)

  -- Session s gave a command, and the text is the reply. A dump is no event.
  abbrev pub Answers : Catalog → List (Record A) → List (Record A) → ℕ → Command A → List ℕ → Type 0
  Answers c es fs s (command.Ask request) text = Replies es fs s (action_of c request) text
  Answers c es fs s command.Wait text = Replies es fs s (action_of c Poll) text
  Answers c es fs s (command.Dump request) text = (fs ≡ es) × ((text ≡ done_text s) ⊎ ((e : Refusal) × (text ≡ reply_text {A = A} s (Refused e))))

  -- A checkpoint is no event either: events after it go on as events of the one history.
  abbrev pub IsDone : Catalog → List (Record A) → List (Record A) → Step A → List ℕ → Type 0
  IsDone c es fs (Session s command) text = Answers c es fs s command text
  IsDone c es fs Checkpoint text = (fs ≡ es) × ((text ≡ codes "CHECKPOINT\n") ⊎ ((e : Refusal) × (text ≡ codes "ERROR " ++ sqlstate e.code ++ codes "\n")))

  -- The lines were done, from the events es to fs, and the text is what a transcript has of them: each line and its reply. The lines' texts are these.
  abbrev pub AreDone : Catalog → List (List ℕ) → List (Record A) → List (Line A) → List (Record A) → List ℕ → Type 0
  AreDone c ls es [] fs text = (fs ≡ es) × (text ≡ [])
  AreDone c ls es (line ∷ more) fs text =
      (gs : List (Record A)) × (reply : List ℕ) × (rest : List ℕ) × IsDone c es gs line.step reply × AreDone c ls gs more fs rest × (text ≡ asked (line_at ls line.number) ++ answered reply ++ rest)

  -- A COMMIT without an event was refused, though its transaction is still open.
  abbrev pub Hears : List (Record A) → List (Record A) → Step A → Type 0
  Hears es fs (Session s (command.Ask Commit)) = fs ≡ es → ⊥
  Hears es fs _ = Unit {0}

  -- Each COMMIT was an event.
  abbrev pub AreHeard : (c : Catalog) (ls : List (List ℕ)) (es : List (Record A)) (more : List (Line A)) (fs : List (Record A)) (text : List ℕ) → AreDone c ls es more fs text → Type 0
  AreHeard c ls es [] fs text h = Unit {0}
  AreHeard c ls es (line ∷ more) fs text h = Hears es h.0 line.step × AreHeard c ls h.0 more fs h.2 h.4

  -- ---- transcripts

  -- The text is the transcript of a script of which the first lines were done from an opening on, all or not, and came to these events.
  pub record IsTranscript (script : List ℕ) (o : Opening A) (es : List (Record A)) (text : List ℕ) : Type 0 where
    pub says : Said A
    pub is_said : said InOrder script ≡ Ok says
    pub done : List (Line A)
    pub left : List (Line A)
    pub are_lines : says.lines ≡ done ++ left
    pub rest : List ℕ
    pub are_done : AreDone o.catalog (lines script) [] done es rest
    pub is_text : text ≡ tables_asked script ++ rest

  -- A property holds of the world after a legal history, and what a transcript of it is read as, with or without time.
  abbrev pub OfTranscripts : (World A → List (Trace A) → Type 0) → Type 0
  OfTranscripts Holds = (script : List ℕ) (o : Opening A) (es : List (Record A)) (text : List ℕ) (has_time : Bool) (rs : List (Trace A)) (names : List Named)
      → Legal o es → IsTranscript script o es text → traces o.catalog has_time text ≡ Ok (rs, names) → Holds (world_of o es) rs

-- The transcript of a legal history is read, with or without time, if each COMMIT was an event.
abbrev pub AreRead : (A : Type 0) → Type 0
AreRead A = (script : List ℕ) (o : Opening A) (es : List (Record A)) (text : List ℕ) (has_time : Bool) → Legal o es
    → (t : IsTranscript script o es text) → AreHeard o.catalog (lines script) [] t.done es t.rest t.are_done
    → (rs : List (Trace A)) × (names : List Named) × (traces o.catalog has_time text ≡ Ok (rs, names))

-- What the transcript of a legal history begins with, as it is read: the tables that its script creates, or the path of the dump that it opens.
abbrev pub AreOpened : (A : Type 0) → Type 0
AreOpened A = (script : List ℕ) (o : Opening A) (es : List (Record A)) (text : List ℕ) → Legal o es
    → (t : IsTranscript script o es text) → (began : Bool) × (opening {A = A} text ≡ Ok (record { catalog = t.says.catalog; opens = t.says.opens; began = began }))

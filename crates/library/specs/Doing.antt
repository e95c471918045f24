-- What a script's lines do, one after the other, and their output. There are no files.
use Rattle.std.specs.Prelude.{◌≡◌, ◌⊎◌, ℕ, true, List, [], ◌∷◌, ◌++◌, Option, Some, None, Ok, Err, codes, slice_get, take}
use Rattle.value.specs.declared.refusal.Refusal.{Refusal}
use Rattle.value.specs.Refusals.{AnswersOrNoMemory}
use Rattle.schema.specs.Definition.{Catalog}
use Rattle.schema.specs.Inserting.{empty_tables}
use Rattle.statement.specs.declared.reply.Reply.TheVariants.{Refused}
use Rattle.history.specs.Answer.{view_answer}
use Rattle.history.specs.Events.{world}
use Rattle.history.specs.Opening.{Recorded, zero_base}
use Rattle.audit.specs.Orders.{check_line, order_lines}
use Rattle.request.specs.declared.request.Request.TheVariants as ask
use Rattle.script.specs.declared.command.Command.{Command}
use Rattle.script.specs.declared.command.Command.TheVariants as command
use Rattle.script.specs.declared.script.Step.{Step}
use Rattle.script.specs.declared.script.Step.TheVariants.{Session, Checkpoint}
use Rattle.script.specs.declared.script.Line.{Line}
use Rattle.script.specs.Printing.{reply_text}
use Rattle.asking.specs.Asking.{Tells}
use Rattle.asking.specs.Checkpoints.{Checkpoints, checkpoint_reply}
use Rattle.library.specs.declared.ending.End.{End}
use Rattle.library.specs.declared.ending.End.TheVariants as end
use Rattle.library.specs.declared.manner.Manner.{Manner}
use Rattle.library.specs.declared.manner.Shown.{Shown}
use Rattle.library.specs.declared.manner.Shown.TheVariants.{Replies, Order}

-- a reply is printed where the output is replies
abbrev pub shown_text : Shown → List ℕ → List ℕ
shown_text Replies text = text
shown_text Order text = []

-- The output of a checkpoint, where this is the serial order before it: its reply; or, where the output is orders, that order, once the checkpoint is done.
abbrev pub checkpoint_text : Shown → List ℕ → Option Refusal → List ℕ
checkpoint_text Replies order refusal = checkpoint_reply refusal
checkpoint_text Order order None = order
checkpoint_text Order order (Some e) = []

module _ {H S : Type 0} where
  -- The steps were done in their order, each from the state that the one before it left, and their texts stand one after the other.
  abbrev pub AreDone : (H → S → H → List ℕ → Type 0) → H → List S → H → List ℕ → Type 0
  AreDone does h [] k text = (k ≡ h) × (text ≡ [])
  AreDone does h (step ∷ more) k text = (m : H) × (first : List ℕ) × (rest : List ℕ) × does h step m first × AreDone does m more k rest × (text ≡ first ++ rest)

module _ {A : Type 0} where
  -- the history of the tables of a catalog, without rows, before any event, with room for `most` events
  abbrev pub begun : Catalog → ℕ → Recorded A
  begun c most = record { opening = record { catalog = c; tables = empty_tables c; base = zero_base }; records = []; most = most }

  -- the serial order of a history, with the check's answer, where the output is that
  abbrev pub order_text : Shown → Recorded A → List ℕ
  order_text Replies h = []
  order_text Order h = order_lines (world h) ++ check_line true

  -- The text is the refusal of a dump of session s, which may view no tables.
  abbrev pub IsUnviewed : Recorded A → ℕ → List ℕ → Type 0
  IsUnviewed h s text = (e : Refusal) × AnswersOrNoMemory (Err e) (view_answer h.opening h.records s) × (text ≡ reply_text {A = A} s (Refused e))

  -- A command of session s took h to k, and the text is its reply. WAIT asks as POLL does. A dump is no event.
  abbrev pub IsReplied : Recorded A → ℕ → Command A → Recorded A → List ℕ → Type 0
  IsReplied h s (command.Dump request) k text = (k ≡ h) × IsUnviewed h s text
  IsReplied h s (command.Ask request) k text = Tells h k s request text
  IsReplied h s command.Wait k text = Tells h k s ask.Poll text

  -- a checkpoint, and its output: the order is that before it
  abbrev pub IsPassed : Manner → Recorded A → Recorded A → List ℕ → Type 0
  IsPassed m h k text = (refusal : Option Refusal) × Checkpoints m.most_events h k refusal × (text ≡ checkpoint_text m.shown (order_text m.shown h) refusal)

  -- A step was done: the history h has become k, and the text is its output.
  abbrev pub IsDone : Manner → Recorded A → Step A → Recorded A → List ℕ → Type 0
  IsDone m h (Session s c) k text = (reply : List ℕ) × IsReplied h s c k reply × (text ≡ shown_text m.shown reply)
  IsDone m h Checkpoint k text = IsPassed m h k text

  -- the lines, done one after the other from the history h, which has become k; and their texts in that order
  abbrev pub LinesAreDone : Manner → Recorded A → List (Line A) → Recorded A → List ℕ → Type 0
  LinesAreDone m = AreDone (λ h line k text. IsDone m h line.step k text)

  -- All lines were done: their output, followed by the serial order where the output is that.
  abbrev pub HasRun : Manner → Recorded A → List (Line A) → List ℕ → Type 0
  HasRun m h lines text = (k : Recorded A) × (output : List ℕ) × LinesAreDone m h lines k output × (text ≡ output ++ order_text m.shown k)

  -- why a session's command in the line of this number ends its script: out of memory; or it is a dump, for which there is no file
  abbrev pub StopsCommand : ℕ → Command A → End → Type 0
  StopsCommand line (command.Dump request) e = (e ≡ end.Memory) ⊎ (e ≡ end.Device line)
  StopsCommand line c e = e ≡ end.Memory

  -- why a line ends its script
  abbrev pub StopsStep : ℕ → Step A → End → Type 0
  StopsStep number (Session s c) e = StopsCommand number c e
  StopsStep number Checkpoint e = e ≡ end.Memory

  abbrev pub Stops : Line A → End → Type 0
  Stops line e = StopsStep line.number line.step e

  -- The first lines were done, and this is their output, and nothing else; out of memory, or by the line that follows, this is the end.
  abbrev pub HasStopped : Manner → Recorded A → List (Line A) → End → List ℕ → Type 0
  HasStopped m h lines e text = (n : ℕ) × (k : Recorded A) × LinesAreDone m h (take n lines) k text × ((e ≡ end.Memory) ⊎ ((line : Line A) × (slice_get lines n ≡ Some line) × Stops line e))

-- What the lines of a script do, one after the other, and what is printed of them.
use Rattle.std.specs.Prelude.{◌≡◌, ◌⊎◌, ℕ, true, List, [], ◌++◌, length, Option, Some, None, Ok, Err, codes, slice_get, take}
use Rattle.value.specs.declared.refusal.Refusal.{Refusal}
use Rattle.asking.specs.Asking.{Replies as HasReplied, Tells}
use Rattle.asking.specs.Checkpoints.{Checkpoints, checkpoint_reply}
use Rattle.statement.specs.declared.reply.Reply.{Reply}
use Rattle.request.specs.declared.request.Request.{Request}
use Rattle.script.specs.Printing.{reply_text}
use Rattle.script.specs.Transcribing.{answered, asked, line_at, lines, tables_asked}
use Rattle.history.specs.Events.{world}
use Rattle.history.specs.Opening.{Recorded, zero_base}
use Rattle.schema.specs.Definition.{Catalog}
use Rattle.schema.specs.declared.tables.Tables.{Tables}
use Rattle.dumpworker.specs.declared.fault.DumpFault.TheVariants.{Device}
use Rattle.backup.specs.declared.fault.SafeDumpFault.TheVariants.{Dump}
use Rattle.request.specs.declared.request.Request.TheVariants as ask
use Rattle.script.specs.declared.command.Command.{Command}
use Rattle.script.specs.declared.command.Command.TheVariants as command
use Rattle.script.specs.declared.script.Step.{Step}
use Rattle.script.specs.declared.script.Step.TheVariants.{Session, Checkpoint}
use Rattle.script.specs.declared.script.Line.{Line}
use Rattle.script.specs.declared.schedule.Schedule.TheVariants.{InOrder}
use Rattle.script.specs.Scripts.{Said, said}
use Rattle.program.specs.Beginnings.{BeginsWith, IsUnbegun}
use Rattle.program.specs.Dumps.{IsDumped, TellsDumpAt}
use Rattle.program.specs.Files.{IsAllOf, IsFileFault, Writing, read_of}
use Rattle.audit.specs.Orders.{check_line, order_lines}
use Rattle.program.specs.Printed.{Adds, IsFlushed, Printed, Prints}
use Rattle.program.specs.Remarks.{Noted, lines_after, remarks_on, unnoted, with_line}
use Rattle.program.specs.Steps.{AreDone}
use Rattle.program.specs.declared.fault.Fault.{Fault}
use Rattle.program.specs.declared.fault.Fault.TheVariants as fault
use Rattle.program.specs.declared.manner.Manner.{Manner}
use Rattle.program.specs.declared.manner.Manner.TheVariants.{Replies, Order, Why, Transcript}
use Rattle.program.specs.declared.run.Way.{Way}

-- what is printed before the lines of a script of this text: in a transcript, its lines that set tables
abbrev pub first_text : Manner → List ℕ → List ℕ
first_text Replies script = []
first_text Order script = []
first_text Why script = []
first_text Transcript script = tables_asked script

-- the lines of its text that are printed
abbrev pub lines_printed : Manner → List ℕ → List (List ℕ)
lines_printed Replies script = []
lines_printed Order script = []
lines_printed Why script = []
lines_printed Transcript script = lines script

-- What is printed of the line n, where these lines are printed, and this is its reply: the reply; nothing, where orders are printed; or in a transcript the line after `> `, and then the reply's lines, each after two spaces.
abbrev pub line_text : Manner → List (List ℕ) → ℕ → List ℕ → List ℕ
line_text Replies ls n reply = reply
line_text Order ls n reply = []
line_text Why ls n reply = reply
line_text Transcript ls n reply = asked (line_at ls n) ++ answered reply

-- What is printed of a checkpoint where orders are: that before it, once it is done.
abbrev pub order_passed : List ℕ → Option Refusal → List ℕ
order_passed order None = order
order_passed order (Some e) = []

-- what is printed of a checkpoint in the line n, where this is the serial order before it
abbrev pub checkpoint_text : Manner → List (List ℕ) → ℕ → List ℕ → Option Refusal → List ℕ
checkpoint_text Replies ls n order refusal = line_text Replies ls n (checkpoint_reply refusal)
checkpoint_text Order ls n order refusal = order_passed order refusal
checkpoint_text Why ls n order refusal = line_text Why ls n (checkpoint_reply refusal)
checkpoint_text Transcript ls n order refusal = line_text Transcript ls n (checkpoint_reply refusal)

-- Nothing was printed: memory was refused, or standard output has failed.
abbrev pub IsUnprintedAt : Fault → Printed → Printed → Type 0
IsUnprintedAt f p q = Prints p q [] × ((f ≡ fault.ScriptOutOfMemory) ⊎ (IsFileFault (codes "-") f × (q.failed ≡ true)))

module _ {A : Type 0} where
  -- the serial order of a history, with the check's answer, where that is printed
  abbrev pub order_text : Manner → Recorded A → List ℕ
  order_text Replies h = []
  order_text Order h = order_lines (world h) ++ check_line true
  order_text Why h = []
  order_text Transcript h = []

  -- What session s asked for took the history h to k, and the text is the reply. No line is noted.
  abbrev pub TellsReply : Noted A → Noted A → ℕ → Request A → List ℕ → Type 0
  TellsReply h k s q text = Tells h.history k.history s q text × (k.lines ≡ h.lines)

  -- a reply as it is printed, followed by why other transactions refuse what was asked for, where the history has become k
  abbrev pub IsRemarked : Noted A → ℕ → Reply A → List ℕ → Type 0
  IsRemarked k s r text = text ≡ reply_text s r ++ remarks_on k s r

  -- What session s asked for in the line n, which is noted, took the history h to k, and the text is the reply with its remarks.
  abbrev pub TellsWhy : ℕ → Noted A → Noted A → ℕ → Request A → List ℕ → Type 0
  TellsWhy n h k s q text = (r : Reply A) × HasReplied h.history k.history s q r × (k.lines ≡ with_line n (length k.history.records) h.lines) × IsRemarked k s r text

  -- What session s asked for in the line n took the history h to k, and the text is the reply, with remarks where refusals are explained.
  abbrev pub TellsRequest : Manner → ℕ → Noted A → Noted A → ℕ → Request A → List ℕ → Type 0
  TellsRequest Replies n h k s q text = TellsReply h k s q text
  TellsRequest Order n h k s q text = TellsReply h k s q text
  TellsRequest Why n h k s q text = TellsWhy n h k s q text
  TellsRequest Transcript n h k s q text = TellsReply h k s q text

  -- The reply to a command of session s in the line n that takes h to k. For a dump, which is no event, it is the result of the dump to its path. Else it is the reply to the command's event; for WAIT, the reply to a POLL.
  abbrev pub TellsCommandAt : Writing → Manner → ℕ → Noted A → Noted A → ℕ → Command A → List ℕ → Type 0
  TellsCommandAt writes m n h k s (command.Dump request) text = (k ≡ h) × TellsDumpAt writes h.history s request.path text
  TellsCommandAt writes m n h k s (command.Ask request) text = TellsRequest m n h k s request text
  TellsCommandAt writes m n h k s command.Wait text = TellsRequest m n h k s ask.Poll text

  -- A command of session s in the line n took h to k, and the text is what is printed of it.
  abbrev pub IsAnswered : Writing → Way → List (List ℕ) → ℕ → Noted A → ℕ → Command A → Noted A → List ℕ → Type 0
  IsAnswered writes way ls n h s c k text = (reply : List ℕ) × TellsCommandAt writes way.manner n h k s c reply × (text ≡ line_text way.manner ls n reply)

  -- a checkpoint of a history with its lines
  abbrev pub HasPassed : ℕ → Noted A → Noted A → Option Refusal → Type 0
  HasPassed most h k refusal = Checkpoints most h.history k.history refusal × (k.lines ≡ lines_after refusal h.lines)

  -- a checkpoint in the line n, and what is printed of it: the order is that before it
  abbrev pub IsPassed : Way → List (List ℕ) → ℕ → Noted A → Noted A → List ℕ → Type 0
  IsPassed way ls n h k text = (refusal : Option Refusal) × HasPassed way.most_events h k refusal × (text ≡ checkpoint_text way.manner ls n (order_text way.manner h.history) refusal)

  -- A step in the line n was done: the history h has become k, and the text is what is printed of it.
  abbrev pub IsStepDone : Writing → Way → List (List ℕ) → ℕ → Noted A → Step A → Noted A → List ℕ → Type 0
  IsStepDone writes way ls n h (Session s c) k text = IsAnswered writes way ls n h s c k text
  IsStepDone writes way ls n h Checkpoint k text = IsPassed way ls n h k text

  -- A line was done, where these lines are printed: the history h has become k, and the text is what is printed of it.
  abbrev pub IsDone : Writing → Way → List (List ℕ) → Noted A → Line A → Noted A → List ℕ → Type 0
  IsDone writes way ls h line k text = IsStepDone writes way ls line.number h line.step k text

  -- Why a command of session s, after the history h, ends its script: there was no memory for what is printed of it; or it is a dump, and its file has failed.
  abbrev pub EndsBy : Recorded A → ℕ → Command A → Fault → Type 0
  EndsBy h s (command.Dump request) f = (f ≡ fault.ScriptOutOfMemory) ⊎ (IsFileFault request.path f × IsDumped h s (Err (Dump Device)))
  EndsBy h s c f = f ≡ fault.ScriptOutOfMemory

  -- why a step, after the history h, ends its script
  abbrev pub Stops : Recorded A → Step A → Fault → Type 0
  Stops h (Session s c) f = EndsBy h s c f
  Stops h Checkpoint f = f ≡ fault.ScriptOutOfMemory

  -- the lines, done one after the other from the history h, which has become k; and their texts in that order
  abbrev pub LinesAreDone : Writing → Way → List (List ℕ) → Noted A → List (Line A) → Noted A → List ℕ → Type 0
  LinesAreDone writes way ls = AreDone (IsDone writes way ls)

  -- All lines were done, and what is to be printed of them was printed, followed by the serial order where that is printed.
  abbrev pub HasRun : Writing → Way → List (List ℕ) → Noted A → List (Line A) → Printed → Printed → Type 0
  HasRun writes way ls h lines p q = (k : Noted A) × (text : List ℕ) × LinesAreDone writes way ls h lines k text × Adds p q (text ++ order_text way.manner k.history)

  -- The lines of a script of this text were done and printed, after what stands before them.
  abbrev pub HasPrinted : Writing → Way → List ℕ → Noted A → List (Line A) → Printed → Printed → Type 0
  HasPrinted writes way script h lines p q = (m : Printed) × Adds p m (first_text way.manner script) × HasRun writes way (lines_printed way.manner script) h lines m q

  -- standard output has failed, or the step after n lines ends the script, after the history k
  abbrev pub IsDeviceAt : Recorded A → List (Line A) → ℕ → Fault → Printed → Type 0
  IsDeviceAt k lines n f q = (IsFileFault (codes "-") f × (q.failed ≡ true)) ⊎ ((line : Line A) × (slice_get lines n ≡ Some line) × Stops k line.step f)

  -- Why lines end once n of them are done, by which there is the history k: memory was refused, or standard output has failed, or the file of the dump that the next line asks for.
  abbrev pub EndsAt : Recorded A → List (Line A) → ℕ → Fault → Printed → Type 0
  EndsAt k lines n f q = (f ≡ fault.ScriptOutOfMemory) ⊎ IsDeviceAt k lines n f q

  -- The first lines were done, and what is to be printed of them was printed, and nothing else; and this is why.
  abbrev pub HasStopped : Writing → Way → List (List ℕ) → Noted A → List (Line A) → Fault → Printed → Printed → Type 0
  HasStopped writes way ls h lines f p q = (n : ℕ) × (k : Noted A) × (text : List ℕ) × LinesAreDone writes way ls h (take n lines) k text × Prints p q text × EndsAt k.history lines n f q

  -- What stands before the lines of a script of this text wasn't printed; or it was, and the lines have stopped.
  abbrev pub HasBrokenOff : Writing → Way → List ℕ → Noted A → List (Line A) → Fault → Printed → Printed → Type 0
  HasBrokenOff writes way script h lines f p q = IsUnprintedAt f p q ⊎ ((m : Printed) × Adds p m (first_text way.manner script) × HasStopped writes way (lines_printed way.manner script) h lines f m q)

  -- the history of some tables before any event, with room for `most` events
  abbrev pub begun : Catalog → Tables A → ℕ → Recorded A
  begun c X most = record { opening = record { catalog = c; tables = X; base = zero_base }; records = []; most = most }

  -- From its tables all lines of a script of this text were done and printed, and the stream has all that was printed, unless it has failed.
  abbrev pub ScriptHasRun : Writing → (List ℕ → Option (List ℕ)) → Way → List ℕ → Said A → Printed → Printed → Type 0
  ScriptHasRun writes held way script s p q = (c : Catalog) × (X : Tables A) × BeginsWith held s.opens s.catalog c X × HasPrinted writes way script (unnoted (begun c X way.most_events)) s.lines p q × IsFlushed q

  -- The script hasn't begun, for this fault, and nothing was printed; or the first lines were done, and the stream has what was printed of them, unless it has failed.
  abbrev pub ScriptHasStopped : Writing → (List ℕ → Option (List ℕ)) → Way → List ℕ → Said A → Fault → Printed → Printed → Type 0
  ScriptHasStopped writes held way script s f p q = (IsUnbegun A held s.opens s.catalog f × (q ≡ p)) ⊎ ((c : Catalog) × (X : Tables A) × BeginsWith held s.opens s.catalog c X × HasBrokenOff writes way script (unnoted (begun c X way.most_events)) s.lines f p q × IsFlushed q)

-- What a path has says a script, and that has run.
abbrev pub PathHasRun : (A : Type 0) → Writing → (List ℕ → Option (List ℕ)) → Option (List ℕ) → Way → List ℕ → Printed → Printed → Type 0
PathHasRun A writes held input way path p q = (bytes : List ℕ) × (s : Said A) × IsAllOf (read_of held input path) bytes × (said InOrder bytes ≡ Ok s) × ScriptHasRun writes held way bytes s p q

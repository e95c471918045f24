-- What is answered to each line of a shell that opens and makes dumps.
use Rattle.std.specs.Prelude.{◌≡◌, ◌⊎◌, ℕ, Bool, Option, Some, None, Err, List, [], ◌++◌, codes, if◌then◌else◌, true, false}
use Rattle.std.specs.Fmt.{decimal}
use Rattle.std.specs.Str.{bytes_eq}
use Rattle.value.specs.Codes.{sqlstate}
use Rattle.value.specs.declared.refusal.Code.{Code}
use Rattle.value.specs.declared.refusal.Code.TheVariants.{OutOfMemory}
use Rattle.schema.specs.Definition.{Catalog}
use Rattle.schema.specs.declared.tables.Tables.{Tables}
use Rattle.history.specs.Events.{world}
use Rattle.history.specs.Opening.{Recorded}
use Rattle.backup.specs.declared.fault.SafeDumpFault.TheVariants.{Dump}
use Rattle.dumpworker.specs.declared.fault.DumpFault.TheVariants.{Device}
use Rattle.script.specs.Scripts.{is_passed_over, said}
use Rattle.script.specs.declared.schedule.Schedule.TheVariants.{InOrder}
use Rattle.program.specs.Beginnings.{BeginsWith, IsUnbegun}
use Rattle.program.specs.Dumps.{IsDumpedAt, TellsDumpAt}
use Rattle.program.specs.Files.{Writing}
use Rattle.program.specs.Runs.{begun}
use Rattle.program.specs.declared.fault.Fault.{Fault}
use Rattle.program.specs.declared.fault.Fault.TheVariants as fault
use Rattle.audit.specs.Orders.{check_line, order_lines}
use Rattle.shell.specs.Asked.{catalog_of, dump_of, opens_by, tables_text}
use Rattle.shell.specs.Shells.{Answers, Held, ended, running}
use Rattle.shell.specs.declared.told.SessionDump.{SessionDump}
use Rattle.command_shell.specs.declared.asked.Word.{Word}
use Rattle.command_shell.specs.declared.asked.Word.TheVariants as word

-- the word that a line is
abbrev pub word_of : List ℕ → Option Word
word_of line = if bytes_eq line (codes "\\d") then Some word.Tables else if bytes_eq line (codes "\\serial") then Some word.Order else None

-- the line of a dump that is faulty in a line
abbrev pub dump_fault_text : ℕ → Code → List ℕ
dump_fault_text line c = codes "ERROR " ++ sqlstate c ++ codes " line " ++ decimal line ++ codes "\n"

-- the line of a file that has failed (58030 is PostgreSQL's io_error)
abbrev pub device_text : List ℕ → List ℕ
device_text path = codes "ERROR 58030 " ++ path ++ codes "\n"

-- the answer to a dump that session s asks for, whose file has failed
abbrev pub dump_device_text : ℕ → List ℕ → List ℕ
dump_device_text s path = decimal s ++ codes " " ++ device_text path

-- the answer where a dump isn't opened
abbrev pub fault_text : Fault → List ℕ
fault_text (fault.Script line) = dump_fault_text 0 OutOfMemory
fault_text (fault.Dump line c) = dump_fault_text line c
fault_text (fault.Device path) = device_text path.now
fault_text fault.ScriptOutOfMemory = dump_fault_text 0 OutOfMemory
fault_text fault.DumpOutOfMemory = dump_fault_text 0 OutOfMemory

module _ {A : Type 0} where
  -- the committed transactions in the serial order, and its check; there is none before the server runs
  abbrev pub order_in : Option (Recorded A) → List ℕ
  order_in None = check_line true
  order_in (Some h) = order_lines (world h) ++ check_line true

  -- what is answered to a word
  abbrev pub word_text : Held A → Word → List ℕ
  word_text p word.Tables = tables_text (catalog_of p)
  word_text p word.Order = order_in p.core

  -- The server runs from then on, on the tables that the dump of a path reads as.
  abbrev pub Opens : (List ℕ → Option (List ℕ)) → List ℕ → ℕ → Held A → List ℕ → Type 0
  Opens held path most q text = (c : Catalog) × (X : Tables A) × BeginsWith held (Some path) [] c X × (q ≡ running (begun c X most) most) × (text ≡ codes "OPEN\n")

  -- The dump isn't opened, for this fault, and nothing has changed.
  abbrev pub IsUnopened : (List ℕ → Option (List ℕ)) → List ℕ → Held A → Held A → List ℕ → Type 0
  IsUnopened held path p q text = (q ≡ p) × ((f : Fault) × IsUnbegun A held (Some path) [] f × (text ≡ fault_text f))

  -- A line was answered that opens the dump of a path.
  abbrev pub OpensPath : (List ℕ → Option (List ℕ)) → List ℕ → Held A → Held A → List ℕ → Type 0
  OpensPath held path p q text = Opens held path p.most q text ⊎ IsUnopened held path p q text

-- where dumps are written so
module _ {A : Type 0} (writes : Writing) where
  -- The answer to a dump to its path that a session asks for after the history h: its result, or that its file has failed.
  abbrev pub TellsSessionDump : Recorded A → SessionDump A → List ℕ → Type 0
  TellsSessionDump h d text = TellsDumpAt writes h d.session d.request.path text ⊎ ((text ≡ dump_device_text d.session d.request.path) × IsDumpedAt writes h d.session d.request.path (Err (Dump Device)))

  -- The answer to a line for which a shell alone has returned a text: where the line asks for a dump and the server runs, the result of the dump; else that text.
  abbrev pub IsTold : Option (SessionDump A) → Option (Recorded A) → List ℕ → List ℕ → Type 0
  IsTold None h told text = text ≡ told
  IsTold (Some d) None told text = text ≡ told
  IsTold (Some d) (Some h) told text = TellsSessionDump h d text

  -- A line was answered as a shell does, and the dump was made that it asks for.
  abbrev pub AnswersLine : Held A → List ℕ → Held A → List ℕ → Type 0
  AnswersLine p line q text = (told : List ℕ) × Answers p line q told × IsTold (dump_of (said InOrder (ended line))) q.core told text

  abbrev pub ServesPath : Option (List ℕ) → (List ℕ → Option (List ℕ)) → Held A → List ℕ → Held A → List ℕ → Type 0
  ServesPath (Some path) held p line q text = OpensPath held path p q text
  ServesPath None held p line q text = AnswersLine p line q text

  -- A line was answered that is no word.
  abbrev pub ServesLine : (List ℕ → Option (List ℕ)) → Held A → List ℕ → Held A → List ℕ → Type 0
  ServesLine held p line q text = ServesPath (opens_by p line) held p line q text

  abbrev pub ServesWord : Option Word → (List ℕ → Option (List ℕ)) → Held A → List ℕ → Held A → List ℕ → Type 0
  ServesWord (Some w) held p line q text = (q ≡ p) × (text ≡ word_text p w)
  ServesWord None held p line q text = ServesLine held p line q text

  abbrev pub ServesUnless : Bool → (List ℕ → Option (List ℕ)) → Held A → List ℕ → Held A → List ℕ → Type 0
  ServesUnless true held p line q text = (q ≡ p) × (text ≡ [])
  ServesUnless false held p line q text = ServesWord (word_of line) held p line q text

  -- A shell that held p answers a line with this text, and holds q then, where these are the files. The answer to an empty line or a comment is empty.
  abbrev pub Serves : (List ℕ → Option (List ℕ)) → Held A → List ℕ → Held A → List ℕ → Type 0
  Serves held p line q text = ServesUnless (is_passed_over line) held p line q text

-- a shell, and the files over which it opens and makes dumps
pub record Over (F A : Type 0) : Type 0 where
  pub files : F
  pub shell : Held A

module _ {F A : Type 0} where
  -- A shell over files answers a line with this text, and has become q; the files have this, and are written so.
  abbrev pub ServesOver : Writing → (F → List ℕ → Option (List ℕ)) → Over F A → List ℕ → Over F A → List ℕ → Type 0
  ServesOver writes held p line q text = (q.files ≡ p.files) × Serves writes (held p.files) p.shell line q.shell text

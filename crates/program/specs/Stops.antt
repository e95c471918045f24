-- Why a task isn't done, and what it has printed by then.
use Rattle.std.specs.Prelude.{◌≡◌, ◌⊎◌, ℕ, true, List, [], Option, Ok, Err, codes}
use Rattle.schema.specs.Definition.{Catalog}
use Rattle.schema.specs.declared.tables.Tables.{Tables}
use Rattle.history.specs.Opening.{zero_base}
use Rattle.script.specs.declared.schedule.Schedule.{Schedule}
use Rattle.script.specs.declared.schedule.Schedule.TheVariants.{Free, InOrder}
use Rattle.script.specs.Scripts.{Said, said}
use Rattle.program.specs.Beginnings.{BeginsWith, IsUnopened, IsUnread}
use Rattle.program.specs.Ends.{script_fault}
use Rattle.program.specs.Files.{IsAllOf, IsFileFault, Writing, read_of}
use Rattle.program.specs.Freely.{SessionsEnd}
use Rattle.program.specs.Printed.{Printed, Prints}
use Rattle.program.specs.Runs.{ScriptHasStopped}
use Rattle.program.specs.declared.fault.Fault.{Fault}
use Rattle.program.specs.declared.fault.Fault.TheVariants as fault
use Rattle.program.specs.declared.free.FreeWay.{FreeWay}
use Rattle.program.specs.declared.run.Way.{Way}
use Rattle.program.specs.declared.task.Task.{Task}
use Rattle.program.specs.declared.task.Task.TheVariants as task

-- No script was read of a path, of which this is known. Its file has failed, or it was out of memory, or its text is no script: the fault then has the number of the first faulty line.
abbrev pub IsNoScript : (A : Type 0) → Schedule → Option (List ℕ) → List ℕ → Fault → Type 0
IsNoScript A way known path f = IsFileFault path f ⊎ (f ≡ fault.ScriptOutOfMemory) ⊎ ((bytes : List ℕ) × (n : ℕ) × IsAllOf known bytes × (said {A = A} way bytes ≡ Err n) × (f ≡ script_fault n))

-- No script was read of a path, and nothing was printed; or the script that it says has stopped.
abbrev pub PathHasStopped : (A : Type 0) → Writing → (List ℕ → Option (List ℕ)) → Option (List ℕ) → Way → List ℕ → Fault → Printed → Printed → Type 0
PathHasStopped A writes held input way path f p q = (IsNoScript A InOrder (read_of held input path) path f × (q ≡ p))
    ⊎ ((bytes : List ℕ) × (s : Said A) × IsAllOf (read_of held input path) bytes × (said InOrder bytes ≡ Ok s) × ScriptHasStopped writes held way bytes s f p q)

-- standard output has failed
abbrev pub IsUnprinted : Fault → Printed → Type 0
IsUnprinted f q = IsFileFault (codes "-") f × (q.failed ≡ true)

module _ {A : Type 0} where
  -- Why the sessions of a script haven't finished: its tables weren't opened; or this fault ended the sessions, which began with its tables; or standard output has failed.
  abbrev pub ScriptEndsFreely : (List ℕ → Option (List ℕ)) → FreeWay → Said A → Fault → Printed → Type 0
  ScriptEndsFreely held way s f q = IsUnopened A held s.opens f
      ⊎ ((c : Catalog) × (X : Tables A) × BeginsWith held s.opens s.catalog c X × SessionsEnd (record { catalog = c; tables = X; base = zero_base }) way.most_events s.lines f)
      ⊎ IsUnprinted f q

-- No script was read of a path; or the sessions of the script that it says haven't finished.
abbrev pub PathEndsFreely : (A : Type 0) → (List ℕ → Option (List ℕ)) → Option (List ℕ) → FreeWay → List ℕ → Fault → Printed → Type 0
PathEndsFreely A held input way path f q = IsNoScript A Free (read_of held input path) path f
    ⊎ ((bytes : List ℕ) × (s : Said A) × IsAllOf (read_of held input path) bytes × (said Free bytes ≡ Ok s) × ScriptEndsFreely held way s f q)

-- The dump of a path, of which this is known, wasn't read, or it was out of memory; or the file of the other path has failed, or standard output.
abbrev pub IsUnrestored : (A : Type 0) → Option (List ℕ) → List ℕ → List ℕ → Fault → Printed → Type 0
IsUnrestored A known path out f q = IsUnread A known path f ⊎ IsFileFault out f ⊎ IsUnprinted f q

-- A task has ended by this fault, with this printed; sessions that run freely have memory of type G. Of these, and of a restore, nothing is printed, unless standard output has failed.
abbrev pub HasStoppedTask : (A G : Type 0) → Writing → (List ℕ → Option (List ℕ)) → Option (List ℕ) → Task → Fault → Printed → Printed → Type 0
HasStoppedTask A G writes held input (task.Run path way) f p q = PathHasStopped A writes held input way path.now f p q
HasStoppedTask A G writes held input (task.Free path way) f p q = PathEndsFreely G held input way path.now f q × Prints p q []
HasStoppedTask A G writes held input (task.Restore dump jobs out) f p q = IsUnrestored A (read_of held input dump.now) dump.now out.now f q × Prints p q []

-- What has been done where the program ends with 0, and why it ends otherwise.
use Rattle.std.specs.Prelude.{◌≡◌, ◌⊎◌, ℕ, List, Option, codes}
use Rattle.clap.specs.Words.{IsAmong, Kinds, Text}
use Rattle.clap.specs.declared.error.ErrorKind.TheVariants.{DisplayHelp, DisplayVersion}
use Rattle.program.specs.Asked.{AsksFor, command_of}
use Rattle.program.specs.CommandLine.{MayBeMistaken, faults}
use Rattle.program.specs.Ends.{code, status}
use Rattle.program.specs.Files.{IsFileFault, Writing}
use Rattle.program.specs.Freely.{PathHasRunFreely}
use Rattle.program.specs.Printed.{Printed, unprinted}
use Rattle.program.specs.Restored.{IsRestored}
use Rattle.program.specs.Runs.{PathHasRun}
use Rattle.program.specs.Stops.{HasStoppedTask}
use Rattle.program.specs.declared.fault.Fault.{Fault}
use Rattle.program.specs.declared.fault.Fault.TheVariants as fault
use Rattle.program.specs.declared.fault.Status.{Status}
use Rattle.program.specs.declared.fault.Status.TheVariants.{Usage}
use Rattle.program.specs.declared.task.Task.{Task}
use Rattle.program.specs.declared.task.Task.TheVariants as task

-- A task was done, and its output was printed. It did the lines of a script, one after the other, or by its sessions freely, whose memory is of type G; or it read a dump, and wrote it to a file again.
abbrev pub HasDoneTask : (A G : Type 0) → Writing → (List ℕ → Option (List ℕ)) → Option (List ℕ) → Task → Printed → Printed → Type 0
HasDoneTask A G writes held input (task.Run path way) p q = PathHasRun A writes held input way path.now p q
HasDoneTask A G writes held input (task.Free path way) p q = PathHasRunFreely G writes held input way path.now p q
HasDoneTask A G writes held input (task.Restore dump jobs out) p q = IsRestored A writes held input dump.now out.now p q

-- A task was done, where standard output had this before and has that after it.
abbrev pub IsDoneOn : (A G : Type 0) → Writing → (List ℕ → Option (List ℕ)) → Option (List ℕ) → Task → Option (List ℕ) → Option (List ℕ) → Type 0
IsDoneOn A G writes held input r before after = (stream : ℕ) × (q : Printed) × HasDoneTask A G writes held input r (unprinted stream before) q × (q.out ≡ after)

-- the words are a call for help, or for the version
abbrev pub AreHelp : Kinds → Type 0
AreHelp ks = IsAmong DisplayHelp ks ⊎ IsAmong DisplayVersion ks

-- What the words ask for was done, where standard output had this and has that; or they are a call for help.
abbrev pub HasDone : (A G : Type 0) → Writing → (List ℕ → Option (List ℕ)) → Option (List ℕ) → List Text → Option (List ℕ) → Option (List ℕ) → Type 0
HasDone A G writes held input words before after = AreHelp (faults words) ⊎ ((r : Task) × AsksFor (command_of words) r × IsDoneOn A G writes held input r before after)

-- ---- why it ends otherwise

-- How the program ends where it hasn't done what it is asked for: the words are mistaken; or by a fault, which is a line of the script, a line of a dump with its code, a file or a standard stream, or out of memory.
pub data Ending : Type 0 where
  Mistaken : Ending
  Fails : Fault → Ending

-- its status
abbrev pub status_of : Ending → Status
status_of Mistaken = Usage
status_of (Fails f) = status f

-- A task has ended by this fault, where standard output had this and has that; sessions that run freely have memory of type G.
abbrev pub IsStoppedOn : (A G : Type 0) → Writing → (List ℕ → Option (List ℕ)) → Option (List ℕ) → Task → Fault → Option (List ℕ) → Option (List ℕ) → Type 0
IsStoppedOn A G writes held input r f before after = (stream : ℕ) × (q : Printed) × HasStoppedTask A G writes held input r f (unprinted stream before) q × (q.out ≡ after)

-- No task is known, for this fault: out of memory for the words, and nothing was printed; or they are a call for help, and standard output has failed.
abbrev pub IsWithoutTask : List Text → Fault → Option (List ℕ) → Option (List ℕ) → Type 0
IsWithoutTask words f before after = ((f ≡ fault.ScriptOutOfMemory) × (after ≡ before)) ⊎ (AreHelp (faults words) × IsFileFault (codes "-") f)

-- What the words ask for wasn't done, and this is how the program ends: they may be mistaken; or no task is known; or what they ask for has stopped.
abbrev pub IsUndone : (A G : Type 0) → Writing → (List ℕ → Option (List ℕ)) → Option (List ℕ) → List Text → Ending → Option (List ℕ) → Option (List ℕ) → Type 0
IsUndone A G writes held input words Mistaken before after = MayBeMistaken (faults words)
IsUndone A G writes held input words (Fails f) before after = IsWithoutTask words f before after ⊎ ((r : Task) × AsksFor (command_of words) r × IsStoppedOn A G writes held input r f before after)

-- what the words ask for wasn't done, and the program ends with this status
abbrev pub EndsAs : (A G : Type 0) → Writing → (List ℕ → Option (List ℕ)) → Option (List ℕ) → List Text → Status → Option (List ℕ) → Option (List ℕ) → Type 0
EndsAs A G writes held input words s before after = (e : Ending) × (s ≡ status_of e) × IsUndone A G writes held input words e before after

-- what the words ask for wasn't done, and the program ends with this exit status
abbrev pub HasEnded : (A G : Type 0) → Writing → (List ℕ → Option (List ℕ)) → Option (List ℕ) → List Text → ℕ → Option (List ℕ) → Option (List ℕ) → Type 0
HasEnded A G writes held input words n before after = (e : Ending) × (n ≡ code (status_of e)) × IsUndone A G writes held input words e before after

-- The result of a dump that a script asks for, and what is printed of it.
use Rattle.std.specs.Prelude.{◌≡◌, ◌⊎◌, ℕ, List, [], Option, Some, None, Result, Ok, Err}
use Rattle.value.specs.Refusals.{AnswersOrNoMemory, out_of_memory}
use Rattle.statement.specs.declared.reply.Reply.TheVariants.{Refused}
use Rattle.history.specs.Opening.{Recorded}
use Rattle.dumpworker.specs.declared.fault.DumpFault.TheVariants.{Device, Memory}
use Rattle.backup.specs.Backed.{IsNone, IsWhole, viewed}
use Rattle.backup.specs.declared.fault.SafeDumpFault.{SafeDumpFault}
use Rattle.backup.specs.declared.fault.SafeDumpFault.TheVariants.{View, Dump}
use Rattle.script.specs.Printing.{done_text, reply_text}
use Rattle.program.specs.Files.{Writing}

-- what is printed of a dump that came to this, under the session's number; nothing where its file failed
abbrev pub dump_text : ℕ → Result (Unit {0}) SafeDumpFault → Option (List ℕ)
dump_text s (Ok done) = Some (done_text s)
dump_text s (Err (View e)) = Some (reply_text {A = Unit {0}} s (Refused e))
dump_text s (Err (Dump Memory)) = Some (reply_text {A = Unit {0}} s (Refused out_of_memory))
dump_text s (Err (Dump Device)) = None

module _ {A : Type 0} where
  -- Session s asked for a dump after the history h, to an empty file: it is whole, or the session may view no tables, or the file failed, before it had taken all or when it was to be kept. Memory may run out at any time.
  abbrev pub IsDumped : Recorded A → ℕ → Result (Unit {0}) SafeDumpFault → Type 0
  IsDumped h s (Ok done) = (written : List ℕ) × IsWhole h s [] written
  IsDumped h s (Err (View e)) = AnswersOrNoMemory (Err e) (viewed h s)
  IsDumped h s (Err (Dump Memory)) = Unit {0}
  IsDumped h s (Err (Dump Device)) = ((written : List ℕ) × (failures : ℕ) × IsNone h s [] 0 (Dump Device) written failures) ⊎ ((written : List ℕ) × IsWhole h s [] written)

  -- The result of a dump to the file of a path. If the dump is done, the whole of it was written there. If its file failed, that is the path's.
  abbrev pub IsDumpedAt : Writing → Recorded A → ℕ → List ℕ → Result (Unit {0}) SafeDumpFault → Type 0
  IsDumpedAt writes h s path (Ok done) = (written : List ℕ) × IsWhole h s [] written × writes.writes path written
  IsDumpedAt writes h s path (Err (View e)) = IsDumped h s (Err (View e))
  IsDumpedAt writes h s path (Err (Dump Memory)) = Unit {0}
  IsDumpedAt writes h s path (Err (Dump Device)) = IsDumped h s (Err (Dump Device)) × writes.fails path

  -- The text is what is printed of a dump to the file of a path that session s asked for after the history h.
  abbrev pub TellsDumpAt : Writing → Recorded A → ℕ → List ℕ → List ℕ → Type 0
  TellsDumpAt writes h s path text = (done : Result (Unit {0}) SafeDumpFault) × IsDumpedAt writes h s path done × (dump_text s done ≡ Some text)

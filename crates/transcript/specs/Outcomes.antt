-- What a function ensures that may want memory.
use Rattle.std.specs.Prelude.{◌≡◌, ◌⊎◌, ℕ, Option, Some, None, Result, Ok, Err}
use Rattle.value.specs.declared.refusal.Code.{Code}
use Rattle.value.specs.declared.refusal.Code.TheVariants.{OutOfMemory}
use Rattle.transcript.specs.declared.fault.Reason.{Reason}
use Rattle.transcript.specs.declared.fault.Reason.TheVariants as reason
use Rattle.transcript.specs.declared.fault.LineError.{LineError}
use Rattle.transcript.specs.declared.fault.LineError.TheVariants.{Memory, Faulty}
use Rattle.transcript.specs.declared.fault.TranscriptFault.{TranscriptFault}

-- the error of what was refused, by its code
abbrev pub error_of : Code → Reason → LineError
error_of OutOfMemory r = Memory
error_of code r = Faulty r

-- the reason that is given of a line
abbrev pub reason_of : LineError → Reason
reason_of Memory = reason.Memory
reason_of (Faulty r) = r

abbrev pub Lacks : {Y : Type 0} → LineError → Option Y → Type 0
Lacks Memory answer = Unit {0}
Lacks (Faulty r) answer = answer ≡ None

-- what was returned of a line, seen by view, is what is read, unless memory ran out
abbrev pub Gives : {X Y : Type 0} → (X → Y) → Result X LineError → Option Y → Type 0
Gives view (Ok x) answer = answer ≡ Some (view x)
Gives view (Err e) answer = Lacks e answer

-- a text is read as the definition has it; else the number of its first line that may not stand where it stands is answered
abbrev pub Reads : {X Y : Type 0} → (X → Y) → Result X TranscriptFault → Result Y ℕ → Type 0
Reads view (Ok x) answer = answer ≡ Ok (view x)
Reads view (Err f) answer = (f.reason ≡ reason.Memory) ⊎ (answer ≡ Err f.line)

-- What a function ensures that may want memory.
use Rattle.std.specs.Prelude.{◌≡◌, ℕ, Option, Some, None, Result, Ok, Err}
use Rattle.value.specs.declared.refusal.Code.{Code}
use Rattle.value.specs.declared.refusal.Code.TheVariants.{OutOfMemory}
use Rattle.certificate.specs.declared.written.error.LineError.{LineError}
use Rattle.certificate.specs.declared.written.error.LineError.TheVariants as line
use Rattle.certificate.specs.declared.written.error.ReadError.{ReadError}
use Rattle.certificate.specs.declared.written.error.ReadError.TheVariants as read

-- the error of what isn't read as values, by its code
abbrev pub error_of : Code → LineError
error_of OutOfMemory = line.Memory
error_of code = line.Malformed

-- the error of a line, with its number
abbrev pub read_error : ℕ → LineError → ReadError
read_error number line.Memory = read.Memory
read_error number line.Malformed = read.Malformed number

abbrev pub Lacks : {Y : Type 0} → LineError → Option Y → Type 0
Lacks line.Memory answer = Unit {0}
Lacks line.Malformed answer = answer ≡ None

-- what was returned of a line, seen by view, is what is read, unless memory ran out
abbrev pub Gives : {X Y : Type 0} → (X → Y) → Result X LineError → Option Y → Type 0
Gives view (Ok x) answer = answer ≡ Some (view x)
Gives view (Err e) answer = Lacks e answer

abbrev pub Fails : {Y : Type 0} → ReadError → Result Y ℕ → Type 0
Fails read.Memory answer = Unit {0}
Fails (read.Malformed number) answer = answer ≡ Err number

-- a text is read as the definition has it; else the number of the line at fault is answered
abbrev pub Reads : {X Y : Type 0} → (X → Y) → Result X ReadError → Result Y ℕ → Type 0
Reads view (Ok x) answer = answer ≡ Ok (view x)
Reads view (Err e) answer = Fails e answer

-- Steps that may fail, and what a function that may want memory ensures of them.
use Rattle.std.specs.Prelude.{◌≡◌, ℕ, Result, Ok, Err}
use Rattle.value.specs.declared.refusal.Code.{Code}
use Rattle.value.specs.declared.refusal.Code.TheVariants.{OutOfMemory}
use Rattle.value.specs.declared.refusal.Refusal.{Refusal}
use Rattle.restore.specs.declared.error.LineError.{LineError}
use Rattle.restore.specs.declared.error.LineError.TheVariants as line
use Rattle.restore.specs.declared.error.ReadError.{ReadError}
use Rattle.restore.specs.declared.error.ReadError.TheVariants as read
use Rattle.restore.specs.declared.error.RestoreFault.{RestoreFault}

-- one step, and what is done with what it gives
infixl 10 ◌>>=◌
abbrev pub ◌>>=◌ : {A B : Type 0} → Result A Code → (A → Result B Code) → Result B Code
(Ok x) >>= f = f x
(Err code) >>= f = Err code

abbrev pub fault : ℕ → Code → RestoreFault
fault number code = record { line = number; code = code }

-- ---- what a function of the code ensures, that may want memory

abbrev pub Fails : {Y : Type 0} → LineError → Result Y Code → Type 0
Fails line.Memory answer = Unit {0}
Fails (line.Refused code) answer = answer ≡ Err code

-- what a function returned of a line, seen by view, is the answer, unless memory ran out
abbrev pub Gives : {X Y : Type 0} → (X → Y) → Result X LineError → Result Y Code → Type 0
Gives view (Ok x) answer = answer ≡ Ok (view x)
Gives view (Err e) answer = Fails e answer

abbrev pub Stops : {Y : Type 0} → ReadError → Result Y RestoreFault → Type 0
Stops read.Memory answer = Unit {0}
Stops (read.Faulty f) answer = answer ≡ Err f

-- what a function returned of some lines: the answer is what is read of the lines after them, unless memory ran out
abbrev pub Reads : {X Y : Type 0} → (X → Result Y RestoreFault) → Result X ReadError → Result Y RestoreFault → Type 0
Reads left (Ok x) answer = answer ≡ left x
Reads left (Err e) answer = Stops e answer

-- ---- errors by what they say

abbrev pub code_error : Code → LineError
code_error OutOfMemory = line.Memory
code_error code = line.Refused code

abbrev pub line_error : Refusal → LineError
line_error refusal = code_error refusal.code

-- the error of a line, with its number
abbrev pub read_error : ℕ → LineError → ReadError
read_error number line.Memory = read.Memory
read_error number (line.Refused code) = read.Faulty (fault number code)

-- out of memory, which is of no line
abbrev pub no_memory : RestoreFault
no_memory = fault 0 OutOfMemory

abbrev pub restore_fault : ReadError → RestoreFault
restore_fault read.Memory = no_memory
restore_fault (read.Faulty f) = f

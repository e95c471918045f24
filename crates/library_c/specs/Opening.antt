-- How a handle is opened.
use Rattle.std.specs.Prelude.{◌≡◌, ◌⊎◌, ℕ, List, [], Option, Some, None, Err}
use Rattle.restore.specs.Reading.{read_dump}
use Rattle.restore.specs.declared.error.RestoreFault.{RestoreFault}
use Rattle.shell.specs.Shells.{opening}
use Rattle.shell.specs.Answering.{answer_text}
use Rattle.library.specs.Restoring.{RestoresAs, fault_text}
use Rattle.library.specs.declared.ending.End.TheVariants.{Refused}
use Rattle.library_c.specs.Handing.{Hands}
use Rattle.library_c.specs.declared.Report.{Report}
use Rattle.library_c.specs.declared.kept.Kept.{Kept}

-- A handle that was shut keeps a server that is this, no answer and no lines; or memory was refused, and it is shut.
abbrev pub Begins : (Kept → Type 0) → Option Kept → ℕ → Type 0
Begins is w status = ((k : Kept) × (w ≡ Some k) × is k × (answer_text k.answer ≡ []) × (k.prepared.items ≡ []) × (status ≡ 0)) ⊎ ((w ≡ None) × (status ≡ 4))

-- A handle was opened with room for `most` events: one that is open stays as it was; else it keeps a new server, or memory was refused.
abbrev pub Opens : Option Kept → ℕ → Option Kept → ℕ → Type 0
Opens (Some k) most w status = (w ≡ Some k) × (status ≡ 7)
Opens None most w status = Begins (λ k. k.server ≡ opening [] most) w status

-- The room and the report are as they were.
abbrev pub IsUntold : List ℕ → List ℕ → Report → Report → Type 0
IsUntold room left before after = (left ≡ room) × (after ≡ before)

-- The line that tells of a faulty dump was handed over; or memory was refused to it.
abbrev pub HandsFault : RestoreFault → List ℕ → List ℕ → Report → Report → ℕ → Type 0
HandsFault fault room left before after status = Hands (Refused fault.line) (fault_text fault) room left after status ⊎ (IsUntold room left before after × (status ≡ 4))

-- A dump's first faulty line was reported, or memory was refused.
abbrev pub TellsFault : (A : Type 0) → List ℕ → List ℕ → List ℕ → Report → Report → ℕ → Type 0
TellsFault A dump room left before after status = ((fault : RestoreFault) × (read_dump {A = A} dump ≡ Err fault) × HandsFault fault room left before after status) ⊎ (IsUntold room left before after × (status ≡ 4))

-- A handle that was shut keeps a server on the tables of a dump; or the dump is faulty or memory was refused, and it is shut.
abbrev pub Restores : (A : Type 0) → List ℕ → ℕ → Option Kept → List ℕ → List ℕ → Report → Report → ℕ → Type 0
Restores A dump most w room left before after status = (Begins (λ k. RestoresAs dump most k.server) w status × IsUntold room left before after) ⊎ ((w ≡ None) × TellsFault A dump room left before after status)

-- A handle was opened on the tables of a dump; one that is open stays as it was.
abbrev pub OpensDump : (A : Type 0) → Option Kept → List ℕ → ℕ → Option Kept → List ℕ → List ℕ → Report → Report → ℕ → Type 0
OpensDump A (Some k) dump most w room left before after status = (w ≡ Some k) × IsUntold room left before after × (status ≡ 7)
OpensDump A None dump most w room left before after status = Restores A dump most w room left before after status

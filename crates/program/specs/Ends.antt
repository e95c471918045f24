-- How the program ends.
use Rattle.std.specs.Prelude.{◌≡◌, ◌==◌, ℕ, Result, Ok, Err, if◌then◌else◌}
use Rattle.restore.specs.declared.error.RestoreFault.{RestoreFault}
use Rattle.program.specs.declared.fault.Fault.{Fault}
use Rattle.program.specs.declared.fault.Fault.TheVariants as fault
use Rattle.program.specs.declared.fault.Status.{Status}
use Rattle.program.specs.declared.fault.Status.TheVariants.{Done, Refused, Usage, Device}

-- the exit status
abbrev pub code : Status → ℕ
code Done = 0
code Refused = 1
code Usage = 2
code Device = 3

-- what was read is refused, or a file failed
abbrev pub status : Fault → Status
status (fault.Script line) = Refused
status (fault.Dump line c) = Refused
status (fault.Device path) = Device
status fault.ScriptOutOfMemory = Refused
status fault.DumpOutOfMemory = Refused

-- a script's first faulty line as the program's fault; line 0 stands for out of memory
abbrev pub script_fault : ℕ → Fault
script_fault line = if line == 0 then fault.ScriptOutOfMemory else fault.Script line

-- the fault of a dump, with its code: its first faulty line, or out of memory
abbrev pub dump_fault : RestoreFault → Fault
dump_fault f = if f.line == 0 then fault.DumpOutOfMemory else fault.Dump f.line f.code

-- what is read of a dump, with its first faulty line as the program's fault
abbrev pub loaded : {X : Type 0} → Result X RestoreFault → Result X Fault
loaded (Ok x) = Ok x
loaded (Err f) = Err (dump_fault f)

abbrev pub end : Result (Unit {0}) Fault → Status
end (Ok done) = Done
end (Err f) = status f

-- how the program ends for some fault of which this holds
abbrev pub EndsFor : Status → (Fault → Type 0) → Type 0
EndsFor s P = (f : Fault) × (s ≡ status f) × P f

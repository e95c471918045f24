-- What a dump leaves on its device.
use Rattle.std.specs.Prelude.{ℕ, ◌≡◌, ◌<◌, true, List, Result, Ok, Err}
use Rattle.collector.specs.Gathered.{Gathering, is_given}
use Rattle.collector.specs.Written.{Began, WroteAll, WroteSome}
use Rattle.dumpworker.specs.declared.fault.DumpFault.{DumpFault}
use Rattle.dumpworker.specs.declared.fault.DumpFault.TheVariants.{Device, Memory}

-- the whole text, or a beginning of it; the device has failed just where that is the fault
abbrev pub Dumped : List ℕ → List ℕ → ℕ → Result (Unit {0}) DumpFault → List ℕ → ℕ → Type 0
Dumped text taken failures (Ok done) taken_now failures_now = WroteAll taken failures text taken_now failures_now
Dumped text taken failures (Err Device) taken_now failures_now = WroteSome taken failures text taken_now failures_now
Dumped text taken failures (Err Memory) taken_now failures_now = Began taken text taken_now × (failures_now ≡ failures)

-- the first `count` pieces were offered, and taken
abbrev pub AreGiven : ℕ → Gathering → Type 0
AreGiven count c = (k : ℕ) → k < count → is_given c k ≡ true

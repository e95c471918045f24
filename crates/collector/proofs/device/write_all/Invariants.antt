use Rattle.std.proofs.Common.{◌≡◌, ◌≤◌, ◌-◌, ◌++◌, length, take}
use Rattle.collector.proofs.device.write_all.Given as goal

-- the bytes taken so far
abbrev pub invariant-loop-from : goal.invariant-loop-from
invariant-loop-from g l = (l.from ≤ length l.bytes) × (g.W.Device.taken l.device ≡ g.W.Device.taken l.initial.device ++ take l.from l.bytes) × (g.W.Device.failures l.device ≡ g.W.Device.failures l.initial.device)

abbrev pub decreases-loop-from : goal.decreases-loop-from
decreases-loop-from g l = length l.bytes - l.from

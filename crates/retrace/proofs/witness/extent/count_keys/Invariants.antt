use Rattle.std.proofs.Common.{◌≡◌, ◌+◌, ◌≤◌, length}
use Rattle.retrace.specs.Holds.{single_keys}
use Rattle.retrace.proofs.witness.extent.count_keys.Given as goal

-- those counted, and those left
abbrev pub invariant-loop-left : goal.invariant-loop-left
invariant-loop-left g l = (l.count + length (single_keys l.table l.left) ≡ length (single_keys l.table l.readings)) × (l.count + length l.left ≤ length l.readings)

abbrev pub decreases-loop-left : goal.decreases-loop-left
decreases-loop-left g l = length l.left

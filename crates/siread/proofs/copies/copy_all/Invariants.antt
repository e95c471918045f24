use Rattle.std.proofs.Common.{◌≡◌, take}
use Rattle.siread.proofs.copies.copy_all.Given as goal

-- the readings so far
abbrev pub invariant-loop-reading : goal.invariant-loop-reading
invariant-loop-reading g l = l.copy.items ≡ take l.reading-index l.readings

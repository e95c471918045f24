use Rattle.std.proofs.Common.{◌≡◌, take}
use Rattle.certificate.proofs.known.copy_excluded.Given as goal

-- those copied so far
abbrev pub invariant-loop-way : goal.invariant-loop-way
invariant-loop-way g l = l.copy.items ≡ take l.way-index l.excluded

use Rattle.std.proofs.Common.{◌≡◌, not, take}
use Rattle.std.specs.List.{filter}
use Rattle.certificate.specs.Cells.{same_spot}
use Rattle.certificate.proofs.numbers.without.Given as goal

-- those so far
abbrev pub invariant-loop-other : goal.invariant-loop-other
invariant-loop-other g l = l.others.items ≡ filter (λ u. not (same_spot l.spot u)) (take l.other-index l.spots)

use Rattle.std.proofs.Common.{◌≡◌, length, take}
use Rattle.std.specs.List.{filter}
use Rattle.certificate.specs.Recorded.{board}
use Rattle.certificate.specs.Sums.{may_count}
use Rattle.certificate.proofs.recording.Recording.at_most.Given as goal

-- those so far
abbrev pub invariant-loop-spot : goal.invariant-loop-spot
invariant-loop-spot g l = l.count ≡ length (filter (may_count (board l.self) l.known l.place l.statement) (take l.spot-index l.spots))

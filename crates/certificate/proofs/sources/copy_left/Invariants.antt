use Rattle.std.proofs.Common.{◌≡◌, ◌++◌, drop}
use Rattle.certificate.specs.Knowledge.{left_from}
use Rattle.certificate.specs.Recorded.{board}
use Rattle.certificate.proofs.sources.copy_left.Given as goal

-- those so far, and those of the rest
abbrev pub invariant-loop-number : goal.invariant-loop-number
invariant-loop-number g l =
    l.left.items ++ left_from (board l.recording) l.known l.place l.spot l.number (drop l.number l.ways) ≡ left_from (board l.recording) l.known l.place l.spot 0 l.ways

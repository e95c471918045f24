use Rattle.std.proofs.Common.{◌≡◌, None, take}
use Rattle.std.specs.List.{find}
use Rattle.retrace.specs.Edges.{covers_by}
use Rattle.retrace.proofs.witness.meeting.first_reading.Given as goal

-- none so far
abbrev pub invariant-loop-moment : goal.invariant-loop-moment
invariant-loop-moment g l = find (covers_by l.reader l.writer) (take l.moment-index l.moments) ≡ None

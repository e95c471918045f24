use Rattle.std.proofs.Common.{◌≡◌, None, take}
use Rattle.std.specs.List.{find}
use Rattle.retrace.specs.Edges.{had_written}
use Rattle.retrace.proofs.witness.meeting.first_writing.Given as goal

-- none so far
abbrev pub invariant-loop-moment : goal.invariant-loop-moment
invariant-loop-moment g l = find (had_written l.item l.writer) (take l.moment-index l.moments) ≡ None

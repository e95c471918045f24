use Rattle.std.proofs.Common.{◌≡◌, ◌<◌, [], length, slice_index_or}
use Rattle.explore.specs.Interleavings.{interleavings}
use Rattle.explore.proofs.Leading.{from}
use Rattle.explore.proofs.tally.interleave.interleavings.find_leader.Given as goal

abbrev pub invariant-loop-session : goal.invariant-loop-session
invariant-loop-session l = (l.number < length (from l.lines l.all l.session)) ×
    (slice_index_or (interleavings l.lines) l.place [] ≡ slice_index_or (from l.lines l.all l.session) l.number [])

use Rattle.std.proofs.Common.{◌≡◌, ◌++◌, length}
use Rattle.std.specs.Fmt.{decimal}
use Rattle.explore.specs.Listing.{series}
use Rattle.explore.proofs.tally.listing.numbers.append_sessions.Given as goal

-- the sessions so far, and those that are left
abbrev pub invariant-loop-left : goal.invariant-loop-left
invariant-loop-left g l = l.text.items ++ series l.word l.later decimal l.left ≡ l.fn.text.items ++ series l.first l.later decimal l.sessions

abbrev pub decreases-loop-left : goal.decreases-loop-left
decreases-loop-left g l = length l.left

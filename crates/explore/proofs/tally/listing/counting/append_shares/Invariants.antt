use Rattle.std.proofs.Common.{◌≡◌, ◌++◌, codes, length}
use Rattle.explore.specs.Listing.{series, share_text}
use Rattle.explore.proofs.tally.listing.counting.append_shares.Given as goal

-- the sessions so far, and those that are left
abbrev pub invariant-loop-left : goal.invariant-loop-left
invariant-loop-left g l = l.text.items ++ series l.word (codes ", session ") (share_text l.all) l.left ≡ l.fn.text.items ++ series (codes "; session ") (codes ", session ") (share_text l.all) l.refused

abbrev pub decreases-loop-left : goal.decreases-loop-left
decreases-loop-left g l = length l.left

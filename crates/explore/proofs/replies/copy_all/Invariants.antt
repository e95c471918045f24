use Rattle.std.proofs.Common.{◌≡◌, take}
use Rattle.explore.proofs.replies.copy_all.Given as goal

-- the replies so far
abbrev pub invariant-loop-replies : goal.invariant-loop-replies
invariant-loop-replies g l = l.copy.items ≡ take l.replies-index l.texts

use Rattle.std.proofs.Common.{take}
use Rattle.explore.specs.Replies.{AreReplies}
use Rattle.explore.proofs.replies.append_from.Given as goal

-- the replies so far
abbrev pub invariant-loop-place : goal.invariant-loop-place
invariant-loop-place g l = AreReplies (take l.place l.entries) l.texts.items

use Rattle.std.proofs.Common.{◌≡◌, ◌++◌}
use Rattle.explore.specs.Texts.{replies_of}
use Rattle.explore.proofs.replies.append_replies.Given as goal

-- the sessions so far
abbrev pub invariant-loop-replies : goal.invariant-loop-replies
invariant-loop-replies g l = l.text.items ≡ l.fn.text.items ++ replies_of l.replies-index l.entries

use Rattle.std.proofs.Common.{◌≡◌, take}
use Rattle.transactions.proofs.transaction.copy_marks.Given as goal

-- the marks so far
abbrev pub invariant-loop-mark : goal.invariant-loop-mark
invariant-loop-mark g l = l.copy.items ≡ take l.mark-index l.marks

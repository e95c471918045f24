use Rattle.std.proofs.Common.{◌≡◌, take}
use Rattle.transactions.proofs.statements.own.copy_list.Given as goal

-- the changes so far
abbrev pub invariant-loop-change : goal.invariant-loop-change
invariant-loop-change g l = l.copy.items ≡ take l.change-index l.list

use Rattle.std.proofs.Common.{◌≡◌, take}
use Rattle.transactions.proofs.world.copy_all.Given as goal

-- the transactions so far
abbrev pub invariant-loop-transaction : goal.invariant-loop-transaction
invariant-loop-transaction g l = l.copy.items ≡ take l.transaction-index l.transactions

use Rattle.std.proofs.Common.{◌≡◌, fold, take}
use Rattle.transactions.specs.Active.{before_active}
use Rattle.transactions.proofs.kept.active.first_among.Given as goal

-- the least of those so far
abbrev pub invariant-loop-transaction : goal.invariant-loop-transaction
invariant-loop-transaction g l = l.first ≡ fold before_active l.place (take l.transaction-index l.transactions)

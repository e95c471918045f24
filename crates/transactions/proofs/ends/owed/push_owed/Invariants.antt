use Rattle.std.proofs.Common.{◌≡◌, ◌++◌, drop}
use Rattle.transactions.specs.Versions.{owed_snapshots}
use Rattle.transactions.proofs.ends.owed.push_owed.Given as goal

-- with those of the rest it is all
abbrev pub invariant-loop-transaction : goal.invariant-loop-transaction
invariant-loop-transaction g l = l.snapshots.items ++ owed_snapshots (drop l.transaction-index l.transactions) ≡ l.initial.snapshots.items ++ owed_snapshots l.transactions

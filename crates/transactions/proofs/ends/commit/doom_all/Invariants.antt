use Rattle.std.proofs.Common.{◌≡◌, ◌++◌, map, take, drop}
use Rattle.history.specs.Events.{doomed_by}
use Rattle.transactions.proofs.ends.commit.doom_all.Given as goal

-- those so far are doomed, the rest are as they were
abbrev pub invariant-loop-transaction : goal.invariant-loop-transaction
invariant-loop-transaction g l = l.transactions ≡ map (doomed_by l.place l.causes) (take l.transaction-index l.initial.transactions) ++ drop l.transaction-index l.initial.transactions

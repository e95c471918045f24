use Rattle.std.proofs.Common.{◌≡◌, ◌+◌, drop}
use Rattle.std.specs.List.{sum_by}
use Rattle.judgement.specs.Counting.{statements_of}
use Rattle.judgement.proofs.counting.count_statements.Given as goal

-- those so far, and those of the transactions left
abbrev pub invariant-loop-transaction : goal.invariant-loop-transaction
invariant-loop-transaction g l = l.count + sum_by statements_of (drop l.transaction-index l.transactions) ≡ sum_by statements_of l.transactions

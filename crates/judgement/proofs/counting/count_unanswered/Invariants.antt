use Rattle.std.proofs.Common.{◌≡◌, ◌+◌, ◌≤◌, drop}
use Rattle.std.specs.List.{count_by}
use Rattle.judgement.specs.Counting.{is_unanswered}
use Rattle.judgement.proofs.counting.count_unanswered.Given as goal

-- those so far, and those of the transactions left
abbrev pub invariant-loop-transaction : goal.invariant-loop-transaction
invariant-loop-transaction g l = (l.count + count_by is_unanswered (drop l.transaction-index l.transactions) ≡ count_by is_unanswered l.transactions) × (l.count ≤ l.transaction-index)

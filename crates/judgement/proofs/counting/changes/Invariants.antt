use Rattle.std.proofs.Common.{◌≡◌, ◌+◌, ◌≤◌, None, drop}
use Rattle.judgement.specs.Counting.{changes}
use Rattle.judgement.proofs.counting.changes.Given as goal

-- those so far, and those of the numbers left
abbrev pub invariant-loop-number : goal.invariant-loop-number
invariant-loop-number l = (l.count + changes l.last (drop l.number-index l.numbers) ≡ changes None l.numbers) × (l.count ≤ l.number-index)

use Rattle.std.proofs.Common.{◌≡◌, ◌+◌, ◌≤◌, drop, length}
use Rattle.mvrows.specs.Versions.{shown_rows}
use Rattle.mvrows.proofs.page.count_shown.Given as goal

-- the rows so far, and those of the keys left; there are no more than keys
abbrev pub invariant-loop-chain : goal.invariant-loop-chain
invariant-loop-chain g l = (l.count + length (shown_rows l.snapshot (drop l.chain-index l.chains)) ≡ length (shown_rows l.snapshot l.chains)) × (l.count ≤ l.chain-index)

use Rattle.std.proofs.Common.{ℕ, ◌≤◌, drop}
use Rattle.mvrows.specs.Whole.{AreRowsFrom}
use Rattle.mvrows.proofs.page.whole.Given as goal

-- the newest versions so far are rows, of commits not above the number
abbrev pub invariant-loop-chain : goal.invariant-loop-chain
invariant-loop-chain g l = (m : ℕ) → l.from ≤ m → AreRowsFrom m (drop l.chain-index l.chains) → AreRowsFrom m l.chains

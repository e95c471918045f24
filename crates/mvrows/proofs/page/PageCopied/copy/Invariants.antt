use Rattle.std.proofs.Common.{◌≡◌, take}
use Rattle.mvrows.proofs.page.PageCopied.copy.Given as goal

-- the keys so far
abbrev pub invariant-loop-chain : goal.invariant-loop-chain
invariant-loop-chain g l = l.chains.items ≡ take l.chain-index l.chain-items

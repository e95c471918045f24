use Rattle.std.proofs.Common.{◌≡◌, ◌++◌, map, take, drop}
use Rattle.mvrows.specs.Pruning.{pruned_key}
use Rattle.mvrows.proofs.page.prune_all.Given as goal

-- those so far are changed, the rest are as they were
abbrev pub invariant-loop-chain : goal.invariant-loop-chain
invariant-loop-chain g l = l.chain-items ≡ map (pruned_key l.oldest) (take l.chain-index l.initial.chain-items) ++ drop l.chain-index l.initial.chain-items

use Rattle.std.proofs.Common.{◌≡◌, take}
use Rattle.mvrows.specs.Pruning.{pruned_rows}
use Rattle.mvrows.proofs.page.Page.is_pruned.Given as goal

-- those so far are pruned
abbrev pub invariant-loop-chain : goal.invariant-loop-chain
invariant-loop-chain g l = pruned_rows l.oldest (take l.chain-index l.chain-items) ≡ take l.chain-index l.chain-items

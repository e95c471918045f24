use Rattle.std.proofs.Common.{◌≡◌, ◌++◌, map, take, drop}
use Rattle.mvrows.specs.TakenBack.{taken_back}
use Rattle.mvrows.proofs.page.take_all_back.Given as goal

-- those so far are changed, the rest are as they were
abbrev pub invariant-loop-chain : goal.invariant-loop-chain
invariant-loop-chain g l = l.chain-items ≡ map (taken_back l.commit) (take l.chain-index l.initial.chain-items) ++ drop l.chain-index l.initial.chain-items

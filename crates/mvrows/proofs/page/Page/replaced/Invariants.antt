use Rattle.std.proofs.Common.{◌≡◌, take, drop}
use Rattle.mvrows.specs.Replacing.{replaced, left}
use Rattle.mvrows.proofs.page.Page.replaced.Given as goal

-- the keys so far, and the changes that come to the rest
abbrev pub invariant-loop-chain : goal.invariant-loop-chain
invariant-loop-chain g l = record {
  keys : l.chains.items ≡ replaced l.replacing.table l.replacing.number (drop l.initial.place l.changes) (take l.chain-index l.chain-items);
  left : drop l.place l.changes ≡ left l.replacing.table (drop l.initial.place l.changes) (take l.chain-index l.chain-items);
}

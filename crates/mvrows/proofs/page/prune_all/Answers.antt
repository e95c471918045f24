use Rattle.std.proofs.Common.{◌∙◌, ap, sym, arith}
use Rattle.std.proofs.lemmas.List.Edits.{map_over_more}
use Rattle.std.proofs.Math.ListN.{set}
use Rattle.mvrows.specs.Pruning.{pruned_key}
use Rattle.mvrows.proofs.page.prune_all.Goals as goal

pub loop-chain-preserved : goal.loop-chain-preserved
loop-chain-preserved g c =
    ap (set c.loop-chain.chain-items c.loop-chain.chain-index) (c.prune.ensures ∙ ap (pruned_key c.args.oldest) (sym c.chain-item.is))
    ∙ map_over_more (pruned_key c.args.oldest) c.deref_mut-chain-items.result.now c.loop-chain.chain-items c.loop-chain.chain-index c.chain-item.result (omega arith) c.loop-chain.invariant c.chain-item.is

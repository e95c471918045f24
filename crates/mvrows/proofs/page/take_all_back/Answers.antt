use Rattle.std.proofs.Common.{◌∙◌, ap, sym, arith}
use Rattle.std.proofs.lemmas.List.Edits.{map_over_more}
use Rattle.std.proofs.Math.ListN.{set}
use Rattle.mvrows.specs.TakenBack.{taken_back}
use Rattle.mvrows.proofs.page.take_all_back.Goals as goal

pub loop-chain-preserved : goal.loop-chain-preserved
loop-chain-preserved g c =
    ap (set c.loop-chain.chain-items c.loop-chain.chain-index) (c.take_back.ensures ∙ ap (taken_back c.args.commit) (sym c.chain-item.is))
    ∙ map_over_more (taken_back c.args.commit) c.deref_mut-chain-items.result.now c.loop-chain.chain-items c.loop-chain.chain-index c.chain-item.result (omega arith) c.loop-chain.invariant c.chain-item.is

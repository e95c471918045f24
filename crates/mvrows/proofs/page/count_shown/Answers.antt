use Rattle.std.proofs.Common.{arith}
use Rattle.mvrows.proofs.WholeLemmas.{count_further, count_last}
use Rattle.mvrows.proofs.page.count_shown.Goals as goal

pub loop-chain-preserved : goal.loop-chain-preserved
loop-chain-preserved g c = count_further c.args.snapshot c.loop-chain.chain-index c.loop-chain.count c.count_of-count.result c.args.chains.now c.chain-item.result (omega arith) c.chain-item.is c.count_of-count.ensures.rows c.loop-chain.invariant

pub returns : goal.returns
returns g c = count_last c.args.snapshot c.loop-chain.chain-index c.loop-chain.count c.args.chains.now c.loop-chain-test.false c.loop-chain.invariant

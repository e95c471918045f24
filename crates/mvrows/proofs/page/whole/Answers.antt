use Rattle.std.proofs.Common.{arith}
use Rattle.mvrows.proofs.WholeLemmas.{row_further, row_last}
use Rattle.mvrows.proofs.page.whole.Goals as goal

pub loop-chain-preserved : goal.loop-chain-preserved
loop-chain-preserved g c = row_further c.in_ok-number.number c.loop-chain.from c.greater-from.result c.loop-chain.chain-index c.args.chains.now c.chain-item.result (omega arith) c.chain-item.is c.in_ok-number.ensures c.greater-from.ensures.one c.greater-from.ensures.other c.loop-chain.invariant

pub returns : goal.returns
returns g c = row_last c.loop-chain.from c.loop-chain.chain-index c.args.chains.now c.loop-chain-test.false c.loop-chain.invariant

use Rattle.std.proofs.Common.{arith}
use Rattle.mvrows.proofs.BatchLemmas.{ended, none_further, row_passed, row_pushed}
use Rattle.mvrows.proofs.page.push_shown.Goals.{in-Some+in_ok-push, in_default}
use Rattle.mvrows.proofs.page.push_shown.Goals as goal

pub loop-chain-preserved : goal.loop-chain-preserved
loop-chain-preserved g c = elim c.match-row_at.branch [
  | in-Some+in_ok-push w ↦ rw w.rows-is (
    row_pushed c.args.snapshot c.loop-chain.chain-index c.args.most c.args.chains.now c.chain-item.result w.in-Some.row c.loop-chain.rows.items w.push.new.self.items _ (omega arith) c.chain-item.is w.in-Some.ensures w.in_ok-push.ensures.items c.loop-chain.invariant.0,
    (let longer = w.in_ok-push.ensures.len in let apart = c.if-len-most.false in let few = c.loop-chain.invariant.1 in omega (arith, longer, apart, few)),
  )
  | in_default w ↦ rw w.rows-is (
    row_passed c.args.snapshot c.loop-chain.chain-index c.args.most c.args.chains.now c.chain-item.result c.loop-chain.rows.items _ (omega arith) c.chain-item.is w.in_default.ensures c.loop-chain.invariant.0,
    c.loop-chain.invariant.1,
  )
]

pub returns-clause-ok : goal.returns-clause-ok
returns-clause-ok g c = ended c.args.most c.loop-chain.rows.items _ _ (none_further c.args.snapshot c.loop-chain.chain-index c.args.chains.now c.loop-chain-test.false) c.loop-chain.invariant.1 c.loop-chain.invariant.0

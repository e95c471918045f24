use Rattle.std.proofs.Common.{subst, sym, arith, take, ◌+◌}
use Rattle.transactions.specs.Merged.{AreMerged}
use Rattle.transactions.proofs.MergedLemmas.{merged-next}
use Rattle.transactions.proofs.statements.own.merge_rest.Goals as goal

pub loop-count-preserved : goal.loop-count-preserved
loop-count-preserved g c = (
  omega (arith, c.loop-count-test.true),
  subst (λ ys. AreMerged ys (take (c.loop-count.count + 1) c.args.list.now)) (sym c.in_ok-put_over.ensures.ok)
      (merged-next c.loop-count.merged c.args.list.now c.loop-count.count c.index-list-count.result (omega (arith, c.loop-count-test.true)) c.index-list-count.is c.loop-count.invariant.1),
)

use Rattle.std.proofs.Common.{◌∙◌, arith}
use Rattle.transactions.specs.Forgetting.{is_looked_at}
use Rattle.transactions.proofs.ForgettingLemmas.{least-start, least-step, least-bound, least-end}
use Rattle.transactions.proofs.kept.least.least_snapshot.Goals as goal

pub loop-left-init : goal.loop-left-init
loop-left-init g c = (least-start (is_looked_at c.args.unspoilt.now c.args.which) c.args.most c.args.transactions.now, omega arith)

pub loop-left-preserved : goal.loop-left-preserved
loop-left-preserved g c =
    let test = is_looked_at c.args.unspoilt.now c.args.which in (
      least-step test c.args.most c.loop-left.left.now c.transaction-item.result c.in-len1-up.len_at_least c.transaction-item.is c.loop-left.least c.lesser_snapshot-least.result c.lesser_snapshot-least.ensures ∙ c.loop-left.invariant.0,
      least-bound test c.transaction-item.result c.args.most c.loop-left.least c.lesser_snapshot-least.result c.lesser_snapshot-least.ensures c.loop-left.invariant.1,
    )

pub returns : goal.returns
returns g c = least-end (is_looked_at c.args.unspoilt.now c.args.which) c.args.most c.loop-left.left.now c.loop-left.least (omega arith) c.loop-left.invariant.1 ∙ c.loop-left.invariant.0

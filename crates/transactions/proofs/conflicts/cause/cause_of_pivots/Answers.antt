use Rattle.std.proofs.Common.{◌∙◌, sym, arith}
use Rattle.history.specs.Transactions.{edge, node}
use Rattle.transactions.specs.Structures.{closed_pair}
use Rattle.transactions.proofs.CauseLemmas.{first_some-here, first_some-next}
use Rattle.transactions.proofs.conflicts.cause.cause_of_pivots.Goals as goal

pub returns-then-is_some : goal.returns-then-is_some
returns-then-is_some g c =
    first_some-here (closed_pair node edge c.args.all.now c.args.first.now) c.args.pivots.now c.loop-pivot.pivot-index c.pivot-item.result (omega arith) c.pivot-item.is c.loop-pivot.invariant c.cause_of_pair-cause.result c.cause_of_pair-cause.ensures (sym c.is_some.ensures ∙ c.if-is_some.true)

pub loop-pivot-preserved : goal.loop-pivot-preserved
loop-pivot-preserved g c =
    first_some-next (closed_pair node edge c.args.all.now c.args.first.now) c.args.pivots.now c.loop-pivot.pivot-index c.pivot-item.result (omega arith) c.pivot-item.is c.loop-pivot.invariant c.cause_of_pair-cause.result c.cause_of_pair-cause.ensures (sym c.is_some.ensures ∙ c.if-is_some.false)

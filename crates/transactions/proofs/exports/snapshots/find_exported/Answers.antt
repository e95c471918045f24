use Rattle.std.proofs.Common.{◌∙◌, sym, ◌&&◌, arith}
use Rattle.std.specs.Prelude.{◌==◌}
use Rattle.value.proofs.Basics.{find-next}
use Rattle.history.specs.Transactions.{is_living}
use Rattle.transactions.proofs.WalkLemmas.{find-here}
use Rattle.transactions.proofs.exports.snapshots.find_exported.Goals as goal

pub returns-then-is_exported : goal.returns-then-is_exported
returns-then-is_exported g c =
    sym (find-here (λ x. x.id == c.args.id && is_living c.args.transactions.now x) c.args.exports.now c.loop-exported.exported-index c.exported-item.result (omega arith) c.exported-item.is c.loop-exported.invariant (sym c.is_exported.ensures ∙ c.if-is_exported.true))

pub loop-exported-preserved : goal.loop-exported-preserved
loop-exported-preserved g c =
    find-next (λ x. x.id == c.args.id && is_living c.args.transactions.now x) c.args.exports.now c.loop-exported.exported-index c.exported-item.result (omega arith) c.exported-item.is c.loop-exported.invariant (sym c.is_exported.ensures ∙ c.if-is_exported.false)

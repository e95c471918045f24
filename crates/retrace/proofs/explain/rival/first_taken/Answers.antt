use Rattle.std.proofs.Common.{◌∙◌, sym, arith}
use Rattle.value.proofs.Basics.{find-next}
use Rattle.retrace.specs.Why.{is_taken}
use Rattle.retrace.proofs.FindLemmas.{find_here}
use Rattle.retrace.proofs.explain.rival.first_taken.Goals as goal

pub returns-then-is_taken : goal.returns-then-is_taken
returns-then-is_taken g c =
    find_here (is_taken c.args.runs.now c.args.trace.now) c.args.changes.now c.loop-change.change-index c.change-item.result (omega arith) c.change-item.is c.loop-change.invariant (sym c.is_taken.ensures ∙ c.if-is_taken.true)

pub loop-change-preserved : goal.loop-change-preserved
loop-change-preserved g c =
    find-next (is_taken c.args.runs.now c.args.trace.now) c.args.changes.now c.loop-change.change-index c.change-item.result (omega arith) c.change-item.is c.loop-change.invariant (sym c.is_taken.ensures ∙ c.if-is_taken.false)

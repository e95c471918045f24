use Rattle.std.proofs.Common.{◌∙◌, sym, arith}
use Rattle.value.proofs.Basics.{find-next}
use Rattle.value.specs.Isolation.{is_first}
use Rattle.retrace.specs.Dooms.{node, reads}
use Rattle.retrace.proofs.FindLemmas.{find_here}
use Rattle.retrace.proofs.doom.first_before.Goals as goal

pub returns-then-found-clause-ok : goal.returns-then-found-clause-ok
returns-then-found-clause-ok g c =
    find_here (is_first node reads c.args.committer.now c.args.causes.now c.args.pivot.now) c.args.runs.now c.loop-first.first-index c.first-item.result (omega arith) c.first-item.is c.loop-first.invariant (sym c.in_ok-found.ensures.ok ∙ c.if-found.true)

pub loop-first-preserved : goal.loop-first-preserved
loop-first-preserved g c =
    find-next (is_first node reads c.args.committer.now c.args.causes.now c.args.pivot.now) c.args.runs.now c.loop-first.first-index c.first-item.result (omega arith) c.first-item.is c.loop-first.invariant (sym c.in_ok-found.ensures.ok ∙ c.if-found.false)

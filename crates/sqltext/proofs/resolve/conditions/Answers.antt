use Rattle.std.proofs.lemmas.Result.{err_from_is_err_and}
use Rattle.sqltext.specs.Resolving.{condition}
use Rattle.sqltext.proofs.EachLemmas.{goes_on, fails, each_next, each_fails}
use Rattle.sqltext.proofs.resolve.conditions.Goals as goal

pub returns-in_err-condition : goal.returns-in_err-condition
returns-in_err-condition g c =
    let p = err_from_is_err_and c.from_residual-in_err-condition.result c.from_residual-in_err-condition.ensures.1 in
    rw (p.1, p.2) (fails c.in_err-condition.field-0.0 c.loop-test.conditions.items _ _
    (each_fails (condition c.args.table.now.columns c.args.text.now) c.in_err-condition.field-0.0 c.args.tests.now c.loop-test.test-index _ c.loop-test-test.true c.in_err-condition.ensures) c.loop-test.invariant)

pub loop-test-preserved : goal.loop-test-preserved
loop-test-preserved g c =
    rw c.in_ok-push.ensures.items (goes_on c.loop-test.conditions.items c.in_ok-condition.condition _ _ _
    (each_next (condition c.args.table.now.columns c.args.text.now) c.args.tests.now c.loop-test.test-index _ c.in_ok-condition.condition c.loop-test-test.true c.in_ok-condition.ensures) c.loop-test.invariant)

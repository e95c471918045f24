use Rattle.std.proofs.lemmas.Result.{err_from_is_err_and}
use Rattle.sqltext.proofs.EachLemmas.{goes_on, fails, assignments_next, assignments_fail}
use Rattle.sqltext.proofs.resolve.assignments.Goals as goal

pub returns-in_err-next : goal.returns-in_err-next
returns-in_err-next g c =
    let p = err_from_is_err_and c.from_residual-in_err-next.result c.from_residual-in_err-next.ensures.1 in
    rw (p.1, p.2) (fails c.in_err-next.field-0.0 c.loop-setting.assignments.items _ _
    (assignments_fail c.args.table.now.columns c.args.text.now c.in_err-next.field-0.0 c.loop-setting.assignments.items c.args.settings.now c.loop-setting.setting-index _ c.loop-setting-test.true
    (rw c.as_slice.ensures.value at c.in_err-next.ensures)) c.loop-setting.invariant)

pub loop-setting-preserved : goal.loop-setting-preserved
loop-setting-preserved g c =
    rw c.in_ok-push.ensures.items (goes_on c.loop-setting.assignments.items c.in_ok-next.next _ _ _
    (assignments_next c.args.table.now.columns c.args.text.now c.loop-setting.assignments.items c.args.settings.now c.loop-setting.setting-index _ c.in_ok-next.next c.loop-setting-test.true
    (rw c.as_slice.ensures.value at c.in_ok-next.ensures)) c.loop-setting.invariant)

use Rattle.std.proofs.lemmas.Result.{err_from_is_err_and}
use Rattle.sqltext.specs.Creating.{definition}
use Rattle.sqltext.proofs.EachLemmas.{goes_on, fails, is_done, each_next, each_fails, each_ends}
use Rattle.sqltext.proofs.create.definitions.Goals as goal

pub returns-in_err-next : goal.returns-in_err-next
returns-in_err-next g c =
    let p = err_from_is_err_and c.from_residual-in_err-next.result c.from_residual-in_err-next.ensures.1 in
    rw (p.1, p.2) (fails c.in_err-next.field-0.0 c.loop-other.columns.items _ _
    (each_fails (definition c.args.text.now) c.in_err-next.field-0.0 c.args.others.now c.loop-other.other-index _ c.loop-other-test.true c.in_err-next.ensures) c.loop-other.invariant)

pub loop-other-preserved : goal.loop-other-preserved
loop-other-preserved g c =
    rw c.in_ok-push-2.ensures.items (goes_on c.loop-other.columns.items c.in_ok-next.next _ _ _
    (each_next (definition c.args.text.now) c.args.others.now c.loop-other.other-index _ c.in_ok-next.next c.loop-other-test.true c.in_ok-next.ensures) c.loop-other.invariant)

pub returns : goal.returns
returns g c =
    is_done c.loop-other.columns.items _ _ (each_ends (definition c.args.text.now) c.args.others.now c.loop-other.other-index c.loop-other-test.false) c.loop-other.invariant

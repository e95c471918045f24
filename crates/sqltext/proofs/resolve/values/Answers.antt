use Rattle.std.proofs.lemmas.Result.{err_from_is_err_and}
use Rattle.sqltext.proofs.EachLemmas.{goes_on, fails, is_done, values_next, values_fail, values_end, values_done}
use Rattle.sqltext.proofs.resolve.values.Goals as goal

pub returns-in_default : goal.returns-in_default
returns-in_default g c =
    rw c.of.ensures (is_done c.loop-literal.values.items _ _ (values_end _ c.args.text.now c.loop-literal.left.now _ c.in_default.ensures) c.loop-literal.invariant)

pub returns-in_err-value : goal.returns-in_err-value
returns-in_err-value g c =
    let p = err_from_is_err_and c.from_residual-in_err-value.result c.from_residual-in_err-value.ensures.1 in
    rw (p.1, p.2) (fails c.in_err-value.field-0.0 c.loop-literal.values.items _ _
    (values_fail _ c.args.text.now c.in_err-value.field-0.0 c.loop-literal.left.now _ _ c.args.literals.now c.loop-literal.literal-index _ c.loop-literal-test.true c.in-Some.ensures c.in_err-value.ensures) c.loop-literal.invariant)

pub loop-literal-preserved : goal.loop-literal-preserved
loop-literal-preserved g c =
    rw c.in_ok-push.ensures.items (goes_on c.loop-literal.values.items c.in_ok-value.value _ _ _
    (values_next c.args.text.now c.loop-literal.left.now _ _ c.args.literals.now c.loop-literal.literal-index _ c.in_ok-value.value c.loop-literal-test.true c.in-Some.ensures c.in_ok-value.ensures) c.loop-literal.invariant)

pub returns : goal.returns
returns g c =
    rw c.of-2.ensures (is_done c.loop-literal.values.items _ _ (values_done _ c.args.text.now c.loop-literal.left.now c.args.literals.now c.loop-literal.literal-index c.loop-literal-test.false) c.loop-literal.invariant)

use Rattle.std.proofs.Common.{refl, arith, ◌∙◌}
use Rattle.std.proofs.lemmas.Result.{IfErr-weaker, err_from_is_err_and, on_ok_weaker}
use Rattle.library.proofs.LinesLemmas.{has_run, one_more, stopped_by_line, stopped_by_memory}
use Rattle.library.proofs.lines.do_lines.Goals as goal

pub loop-line-init : goal.loop-line-init
loop-line-init g c = (refl, c.requires.empty)

pub loop-line-preserved : goal.loop-line-preserved
loop-line-preserved g c =
    one_more c.args.manner c.args.core.now c.loop-line.core c.do_line.new.core c.args.lines.now c.loop-line.line-index c.line-item.result c.loop-line.text.items c.in_ok-output.output.items c.as_slice.result.now c.append.new.text.items
    (omega arith) c.line-item.is c.loop-line.invariant c.in_ok-output.ensures.done c.as_slice.ensures.value c.in_ok-append.ensures.appended

pub returns-in_err-output-clause-stopped : goal.returns-in_err-output-clause-stopped
returns-in_err-output-clause-stopped g c =
    let p = err_from_is_err_and c.from_residual.result c.from_residual.ensures.1 in
    rw (p.1, p.2) (stopped_by_line c.args.manner c.args.core.now c.loop-line.core c.args.lines.now c.loop-line.line-index c.line-item.result c.in_err-output.field-0.0 c.loop-line.text.items (omega arith) c.line-item.is c.loop-line.invariant c.in_err-output.ensures.stopped)

pub returns-in_err-append-clause-stopped : goal.returns-in_err-append-clause-stopped
returns-in_err-append-clause-stopped g c =
    let p = err_from_is_err_and c.from_residual-in_err-append.result c.from_residual-in_err-append.ensures.1 in
    rw (p.1, p.2) (stopped_by_memory c.args.manner c.args.core.now c.loop-line.core c.args.lines.now c.loop-line.line-index c.in_err-append.field-0.0 c.loop-line.text.items c.append.new.text.items c.loop-line.invariant c.in_err-append.ensures.stopped.1 c.in_err-append.ensures.stopped.0)

pub returns-in_err-order-clause-stopped : goal.returns-in_err-order-clause-stopped
returns-in_err-order-clause-stopped g c =
    let p = err_from_is_err_and c.from_residual-in_err-order.result c.from_residual-in_err-order.ensures.1 in
    rw (p.1, p.2) (stopped_by_memory c.args.manner c.args.core.now c.loop-line.core c.args.lines.now c.loop-line.line-index c.in_err-order.field-0.0 c.loop-line.text.items c.loop-line.text.items c.loop-line.invariant refl c.in_err-order.ensures.memory)

pub returns-clause-done : goal.returns-clause-done
returns-clause-done g c =
    on_ok_weaker c.append-2.result
    (λ appended. has_run c.args.manner c.args.core.now c.loop-line.core c.args.lines.now c.loop-line.line-index c.loop-line.text.items c.as_slice-2.result.now c.append-2.new.text.items (omega arith) c.loop-line.invariant (c.as_slice-2.ensures.value ∙ c.in_ok-order.ensures.order) appended)
    c.append-2.ensures.appended

pub returns-clause-stopped : goal.returns-clause-stopped
returns-clause-stopped g c =
    IfErr-weaker c.append-2.result _ _
    (λ e left. stopped_by_memory c.args.manner c.args.core.now c.loop-line.core c.args.lines.now c.loop-line.line-index e c.loop-line.text.items c.append-2.new.text.items c.loop-line.invariant left.1 left.0)
    c.append-2.ensures.stopped

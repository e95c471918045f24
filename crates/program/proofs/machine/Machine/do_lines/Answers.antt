use Rattle.std.proofs.Common.{◌∙◌, [], ap, inl, map, refl, arith}
use Rattle.std.proofs.lemmas.Result.{err_from_is_err_and, on_ok_weaker}
use Rattle.program.specs.Files.{writing_of}
use Rattle.program.specs.Runs.{order_text}
use Rattle.program.proofs.PrintLemmas.{adds_none, prints_none}
use Rattle.program.proofs.RunLemmas.{ends_by_print, ends_by_step, if_err_of, one_more, stopped, run}
use Rattle.program.proofs.machine.Machine.do_lines.Goals as goal

pub loop-line-init : goal.loop-line-init
loop-line-init g c = ([], (refl, refl), adds_none c.args.printer.now)

pub returns-in_err-text-clause-stopped : goal.returns-in_err-text-clause-stopped
returns-in_err-text-clause-stopped g c =
    let p = err_from_is_err_and c.from_residual.result c.from_residual.ensures.1 in
    rw (p.1, p.2) (stopped (writing_of g.F.Out.OutFile.path g.F.Out.Placed.kept g.F.Out.Device.failures) c.args.way (map (λ l. l.now) c.args.texts.now) c.args.course.now c.loop-line.course c.args.lines.now c.loop-line.line-index c.in_err-text.field-0.0 c.args.printer.now c.loop-line.printer c.loop-line.printer c.loop-line.invariant (prints_none c.loop-line.printer)
    (ends_by_step c.loop-line.course.history c.args.lines.now c.loop-line.line-index c.line-item.result c.in_err-text.field-0.0 c.loop-line.printer (omega arith) c.line-item.is c.in_err-text.ensures.fault))

pub returns-in_err-order-clause-stopped : goal.returns-in_err-order-clause-stopped
returns-in_err-order-clause-stopped g c =
    let p = err_from_is_err_and c.from_residual-in_err-order.result c.from_residual-in_err-order.ensures.1 in
    rw (p.1, p.2) (stopped (writing_of g.F.Out.OutFile.path g.F.Out.Placed.kept g.F.Out.Device.failures) c.args.way (map (λ l. l.now) c.args.texts.now) c.args.course.now c.loop-line.course c.args.lines.now c.loop-line.line-index c.in_err-order.field-0.0 c.args.printer.now c.loop-line.printer c.loop-line.printer c.loop-line.invariant (prints_none c.loop-line.printer)
    (inl c.in_err-order.ensures.memory))

pub loop-line-preserved : goal.loop-line-preserved
loop-line-preserved g c =
    one_more (writing_of g.F.Out.OutFile.path g.F.Out.Placed.kept g.F.Out.Device.failures) c.args.way (map (λ l. l.now) c.args.texts.now) c.args.course.now c.loop-line.course c.do_line.new.course c.args.lines.now c.loop-line.line-index c.line-item.result c.args.printer.now c.loop-line.printer c.show.new.printer c.in_ok-text.text.items c.as_slice.result.now
    (omega arith) c.line-item.is c.loop-line.invariant c.in_ok-text.ensures.done c.as_slice.ensures.value c.in_ok-show.ensures.printed

pub returns-in_err-show-clause-stopped : goal.returns-in_err-show-clause-stopped
returns-in_err-show-clause-stopped g c =
    let p = err_from_is_err_and c.from_residual-in_err-show.result c.from_residual-in_err-show.ensures.1 in
    rw (p.1, p.2) (stopped (writing_of g.F.Out.OutFile.path g.F.Out.Placed.kept g.F.Out.Device.failures) c.args.way (map (λ l. l.now) c.args.texts.now) c.args.course.now c.loop-line.course c.args.lines.now c.loop-line.line-index c.in_err-show.field-0.0 c.args.printer.now c.loop-line.printer c.show.new.printer c.loop-line.invariant c.in_err-show.ensures.stopped
    (ends_by_print c.loop-line.course.history c.args.lines.now c.loop-line.line-index c.in_err-show.field-0.0 c.show.new.printer c.in_err-show.ensures.fault))

pub returns-clause-done : goal.returns-clause-done
returns-clause-done g c =
    on_ok_weaker c.show-2.result
    (λ printed. run (writing_of g.F.Out.OutFile.path g.F.Out.Placed.kept g.F.Out.Device.failures) c.args.way (map (λ l. l.now) c.args.texts.now) c.args.course.now c.loop-line.course c.args.lines.now c.loop-line.line-index c.args.printer.now c.loop-line.printer c.show-2.new.printer c.as_slice-2.result.now (omega arith) c.loop-line.invariant (c.as_slice-2.ensures.value ∙ c.in_ok-order.ensures.order ∙ ap (order_text c.args.way.manner) c.core.ensures) printed)
    c.show-2.ensures.printed

pub returns-clause-stopped : goal.returns-clause-stopped
returns-clause-stopped g c =
    if_err_of c.show-2.result _ _ _
    (λ f none why. stopped (writing_of g.F.Out.OutFile.path g.F.Out.Placed.kept g.F.Out.Device.failures) c.args.way (map (λ l. l.now) c.args.texts.now) c.args.course.now c.loop-line.course c.args.lines.now c.loop-line.line-index f c.args.printer.now c.loop-line.printer c.show-2.new.printer c.loop-line.invariant none (ends_by_print c.loop-line.course.history c.args.lines.now c.loop-line.line-index f c.show-2.new.printer why))
    c.show-2.ensures.stopped
    c.show-2.ensures.fault

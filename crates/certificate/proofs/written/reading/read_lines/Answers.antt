use Rattle.std.proofs.Common.{◌∙◌, sym, subst, ap}
use Rattle.certificate.specs.Outcomes.{Fails}
use Rattle.certificate.specs.Reading.{line_of, lines_in}
use Rattle.certificate.proofs.LineLemmas.{behind_read, nothing_read, read_more, read_wrong, read_all, read_unended, fails_by}
use Rattle.certificate.proofs.written.reading.read_lines.Goals as goal

pub loop-line-init : goal.loop-line-init
loop-line-init g c =
    nothing_read {A = g.row.A.Denot} c.args.naming.now 2 c.args.text.now ∙ ap (λ done. behind_read c.args.naming.now done 2 c.args.text.now) (sym c.new-lines.ensures.items)

pub returns-in-Err : goal.returns-in-Err
returns-in-Err g c =
    subst (λ e. Fails e (lines_in {A = g.row.A.Denot} c.args.naming.now c.args.text.now)) (sym c.at.ensures)
    (fails_by c.args.naming.now c.in-Err.error c.loop-line.number (line_of {A = g.row.A.Denot} c.args.naming.now c.in-Some.line.now) _ c.in-Err.ensures
    (λ wrong. c.loop-line.invariant
    ∙ read_wrong c.args.naming.now c.loop-line.lines.items c.loop-line.number c.loop-line.rest.now c.in-Some.line.now c.in-Some.more.now (rw c.in-Some.is at c.cut.ensures.value) wrong))

pub loop-line-preserved : goal.loop-line-preserved
loop-line-preserved g c =
    c.loop-line.invariant
    ∙ read_more c.args.naming.now c.loop-line.lines.items c.loop-line.number c.in-Some-checked_add.next c.loop-line.rest.now c.in-Some.line.now c.in-Some.more.now c.in-Ok.line
    (rw c.in-Some.is at c.cut.ensures.value) c.in-Ok.ensures c.in-Some-checked_add.ensures.1
    ∙ ap (λ done. behind_read c.args.naming.now done c.in-Some-checked_add.next c.in-Some.more.now) (sym c.in_ok-push-in-Ok.ensures.items)

pub returns-then-is_empty : goal.returns-then-is_empty
returns-then-is_empty g c =
    c.loop-line.invariant
    ∙ read_all c.args.naming.now c.loop-line.lines.items c.loop-line.number c.loop-line.rest.now (rw c.in_default.is at c.cut.ensures.value) (sym c.is_empty.ensures ∙ c.if-is_empty.true)

pub returns-else-is_empty : goal.returns-else-is_empty
returns-else-is_empty g c =
    c.loop-line.invariant
    ∙ read_unended c.args.naming.now c.loop-line.lines.items c.loop-line.number c.loop-line.rest.now (rw c.in_default.is at c.cut.ensures.value) (sym c.is_empty.ensures ∙ c.if-is_empty.false)

use Rattle.std.proofs.Common.{◌≡◌, sym, ap, ◌∙◌, ◌<◌, ◌≤◌, map, arith}
use Rattle.value.proofs.Basics.{IfOk_then}
use Rattle.audit.specs.Replay.{answers_again, are_fit, end_of}
use Rattle.audit.proofs.StepLemmas.{ended-before, not_ended}
use Rattle.audit.proofs.order.goes_after.Goals as goal

pub returns-then-course-latest-clause-same : goal.returns-then-course-latest-clause-same
returns-then-course-latest-clause-same g c =
    let same : c.course.inside.end ≡ c.args.course.now.end = ap (λ x. x.end) c.course.view_is in
    let before : c.args.course.now.end < c.args.latest = omega (arith, c.if-course-latest.true) in
    sym (ended-before c.args.course.now.end c.args.latest (answers_again c.args.catalog.now c.args.course.now.statements c.args.tables.now) before)

pub answer_again-requires-clause-fits : goal.answer_again-requires-clause-fits
answer_again-requires-clause-fits g c =
    ap (λ qs. are_fit c.args.catalog.now (map (λ a. (a.statement, a.reply)) qs)) c.as_slice.ensures.value ∙ ap (λ x. are_fit c.args.catalog.now x.statements) c.course.view_is ∙ c.requires.fits

pub answer_again-requires-clause-sound : goal.answer_again-requires-clause-sound
answer_again-requires-clause-sound g c = c.requires.sound

pub returns-clause-same : goal.returns-clause-same
returns-clause-same g c =
    let same : c.course.inside.end ≡ c.args.course.now.end = ap (λ x. x.end) c.course.view_is in
    let not_before : c.args.latest ≤ c.args.course.now.end = omega (arith, c.if-course-latest.false) in
    IfOk_then c.answer_again.result c.answer_again.ensures.same (λ b e. e ∙ ap (λ qs. answers_again c.args.catalog.now (map (λ a. (a.statement, a.reply)) qs) c.args.tables.now) c.as_slice.ensures.value ∙ ap (λ x. answers_again c.args.catalog.now x.statements c.args.tables.now) c.course.view_is
    ∙ sym (not_ended c.args.course.now.end c.args.latest (answers_again c.args.catalog.now c.args.course.now.statements c.args.tables.now) not_before))

pub returns-clause-done : goal.returns-clause-done
returns-clause-done g c =
    IfOk_then c.answer_again.result c.answer_again.ensures.done (λ b done h. done h ∙ ap (λ qs. end_of c.args.catalog.now (map (λ a. (a.statement, a.reply)) qs) c.args.tables.now) c.as_slice.ensures.value ∙ ap (λ x. end_of c.args.catalog.now x.statements c.args.tables.now) c.course.view_is)

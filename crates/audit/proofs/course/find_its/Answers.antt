use Rattle.std.proofs.Common.{◌∙◌, sym}
use Rattle.audit.proofs.LatestLemmas.{if-none, its-absent, its-first, its-other, its-past}
use Rattle.audit.proofs.course.find_its.Goals as goal

pub returns-in_err-place-clause-none : goal.returns-in_err-place-clause-none
returns-in_err-place-clause-none g c = if-none c.from_residual.result (its-absent c.args.latest.now c.args.courses.now c.args.session c.number.result c.requires c.number.ensures.value c.in_err-place.ensures.value)

pub returns-in_err-course-clause-none : goal.returns-in_err-course-clause-none
returns-in_err-course-clause-none g c =
    if-none c.from_residual-in_err-course.result
    (its-past c.args.latest.now c.args.courses.now c.args.session c.number.result c.in_ok-place.field-0.now c.requires c.number.ensures.value c.in_ok-place.ensures.value c.in_err-course.ensures.lookup.3)

pub returns-then-is_its-clause-first : goal.returns-then-is_its-clause-first
returns-then-is_its-clause-first g c = its-first c.args.latest.now c.args.courses.now c.args.session c.number.result c.in_ok-place.field-0.now c.requires c.number.ensures.value c.in_ok-place.ensures.value

pub returns-else-is_its-clause-none : goal.returns-else-is_its-clause-none
returns-else-is_its-clause-none g c =
    its-other c.args.latest.now c.args.courses.now c.args.session c.number.result c.in_ok-place.field-0.now c.in_ok-course.course.now c.requires c.number.ensures.value c.in_ok-place.ensures.value c.in_ok-course.ensures.lookup.1
    (sym c.is_its.ensures ∙ c.if-is_its.false)

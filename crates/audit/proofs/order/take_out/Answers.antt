use Rattle.std.proofs.Common.{◌≡◌, ◌+◌, ◌∙◌, sym, ap, subst, set, arith}
use Rattle.audit.specs.Replay.{AreInPlace, present}
use Rattle.audit.proofs.ToComeLemmas.{at-past, at-read, find-at, find-zero, taken-in_place, without-at, without-zero}
use Rattle.audit.proofs.order.take_out.Goals as goal

pub returns-in_err-place-clause-found : goal.returns-in_err-place-clause-found
returns-in_err-place-clause-found g c =
    let zero_number : c.args.number ≡ 0 = omega arith in
    c.from_residual.ensures ∙ sym (find-zero c.args.left.now.items c.args.number c.requires zero_number)

pub returns-in_err-place-clause-others : goal.returns-in_err-place-clause-others
returns-in_err-place-clause-others g c =
    let zero_number : c.args.number ≡ 0 = omega arith in
    sym (without-zero c.args.left.now.items c.args.number c.requires zero_number)

pub returns-in_err-course-clause-found : goal.returns-in_err-course-clause-found
returns-in_err-course-clause-found g c =
    let next : c.args.number ≡ c.in_ok-place.place + 1 = omega (arith, c.in_ok-place.ensures) in
    c.from_residual-in_err-course.ensures
    ∙ sym (find-at c.args.left.now.items c.in_ok-place.place c.args.number c.requires next ∙ (at-past c.args.left.now.items c.in_ok-place.place c.in_err-course.ensures.item.3).0)

pub returns-in_err-course-clause-others : goal.returns-in_err-course-clause-others
returns-in_err-course-clause-others g c =
    let next : c.args.number ≡ c.in_ok-place.place + 1 = omega (arith, c.in_ok-place.ensures) in
    sym (without-at c.args.left.now.items c.in_ok-place.place c.args.number c.requires next ∙ ap present (at-past c.args.left.now.items c.in_ok-place.place c.in_err-course.ensures.item.3).1)

pub returns-clause-found : goal.returns-clause-found
returns-clause-found g c =
    let next : c.args.number ≡ c.in_ok-place.place + 1 = omega (arith, c.in_ok-place.ensures) in
    let item = c.in_ok-course.ensures.item in
    c.take.ensures.value
    ∙ sym (find-at c.args.left.now.items c.in_ok-place.place c.args.number c.requires next ∙ at-read c.args.left.now.items c.in_ok-place.place c.in_ok-course.course.now item.3.0 item.1)

pub returns-clause-others : goal.returns-clause-others
returns-clause-others g c =
    let next : c.args.number ≡ c.in_ok-place.place + 1 = omega (arith, c.in_ok-place.ensures) in
    ap (λ o. present (set c.args.left.now.items c.in_ok-place.place o)) c.take.ensures.after ∙ sym (without-at c.args.left.now.items c.in_ok-place.place c.args.number c.requires next)

pub returns-clause-in_place : goal.returns-clause-in_place
returns-clause-in_place g c =
    subst (λ o. AreInPlace (set c.args.left.now.items c.in_ok-place.place o)) (sym c.take.ensures.after) (taken-in_place c.args.left.now.items c.in_ok-place.place c.requires)

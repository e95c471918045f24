use Rattle.std.proofs.Common.{◌++◌, ◌∙◌, sym, ap, append-nil, map, arith}
use Rattle.std.proofs.lemmas.List.{nil_from_length}
use Rattle.audit.specs.Replay.{if_committed}
use Rattle.audit.proofs.ToComeLemmas.{push-step}
use Rattle.audit.proofs.order.to_come.Goals as goal

pub loop-course-preserved : goal.loop-course-preserved
loop-course-preserved g c =
    push-step if_committed c.loop-course.left.items c.push.new.self.items c.loop-course.course-iterator.rest.items c.next.new.self.rest.items c.in-Some.course c.if_committed.result c.in-Some.ensures.steps.0 c.if_committed.ensures c.in_ok-push.ensures.items
    ∙ c.loop-course.invariant

pub returns-clause-ok : goal.returns-clause-ok
returns-clause-ok g c =
    let rest = c.loop-course.course-iterator.rest in
    let none = nil_from_length rest.items (omega (arith, rest.ok.0, c.in-None.ensures.steps.0)) in
    sym (append-nil c.loop-course.left.items) ∙ ap (λ cs. c.loop-course.left.items ++ map if_committed cs) (sym none) ∙ c.loop-course.invariant

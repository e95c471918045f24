use Rattle.std.proofs.Common.{◌∙◌}
use Rattle.std.proofs.lemmas.Result.{IfOk-weaker}
use Rattle.program.proofs.CourseLemmas.{tells_why}
use Rattle.program.proofs.course.Course.ask.Goals as goal

pub returns-clause-told : goal.returns-clause-told
returns-clause-told g c =
    IfOk-weaker c.remarked.result _ _
    (λ text is. tells_why c.args.line c.args.self.now c.step-reply.new.self c.note.new.self c.remarks_on.new.self c.args.session c.args.request.now c.step-reply.result c.as_slice.result.now text.items c.step-reply.ensures.replied c.step-reply.ensures.lines c.in_ok-note.ensures.ok c.remarks_on.ensures.same (c.as_slice.ensures.value ∙ c.in_ok-remarks.ensures.remarks) is)
    c.remarked.ensures.text

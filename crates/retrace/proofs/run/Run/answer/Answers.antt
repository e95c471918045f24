use Rattle.std.proofs.Common.{ap, ◌∙◌}
use Rattle.std.proofs.lemmas.Result.{on_ok_weaker}
use Rattle.retrace.specs.Runs.{Going, answered}
use Rattle.retrace.proofs.PastLemmas.{answered-is}
use Rattle.retrace.proofs.run.Run.answer.Goals as goal

pub returns-clause-ok : goal.returns-clause-ok
returns-clause-ok g c =
    let before : Going _ = record { trace = c.self.inside.trace; refused = c.self.inside.refused.items; own = c.self.inside.own; owed = c.self.inside.owed; active = c.self.inside.active } in
    on_ok_weaker c.grow.result
    (λ e. answered-is c.args.catalog.now c.args.place c.args.statement.now before c.grow.new.trace c.put_own.new.own c.in_ok-reads.reads.items c.in_ok-written.written.changes.items c.as_slice.result.now c.in_ok-written.written.marks.items
    c.in_ok-reads.ensures.ok c.in_ok-written.ensures.changes c.in_ok-written.ensures.marks c.as_slice.ensures.value c.in_ok-put_own.ensures.ok e
    ∙ ap (answered c.args.catalog.now c.args.place c.args.statement.now) c.self.view_is)
    c.grow.ensures.ok

use Rattle.std.proofs.Common.{◌∙◌, ap}
use Rattle.schema.specs.Plain.{put_all}
use Rattle.statement.specs.Evaluation.{outcome}
use Rattle.statement.proofs.HeldLemmas.{held_sound}
use Rattle.audit.specs.Same.{same_answer}
use Rattle.audit.proofs.StepLemmas.{answered-ok}
use Rattle.audit.proofs.order.answers_so.Goals as goal

pub evaluate-requires-clause-held : goal.evaluate-requires-clause-held
evaluate-requires-clause-held g c = held_sound c.args.catalog.now c.args.tables.now c.requires.sound

pub returns-clause-same : goal.returns-clause-same
returns-clause-same g c =
    c.is_same_answer.ensures ∙ ap (λ o. same_answer o.reply c.args.answered.now.reply) (answered-ok c.in_ok-outcome.outcome (outcome c.args.catalog.now c.args.answered.now.statement c.args.tables.now) c.in_ok-outcome.ensures)

pub returns-clause-done : goal.returns-clause-done
returns-clause-done g c =
    c.in_ok-apply_all.ensures.ok
    ∙ ap (λ xs. put_all xs c.args.tables.now) (c.as_slice.ensures.value ∙ c.in_ok-changes.ensures.ok ∙ ap (λ o. o.changes) (answered-ok c.in_ok-outcome.outcome (outcome c.args.catalog.now c.args.answered.now.statement c.args.tables.now) c.in_ok-outcome.ensures))

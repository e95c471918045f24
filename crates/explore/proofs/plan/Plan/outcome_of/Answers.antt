use Rattle.std.proofs.Common.{ap, subst, sym, ◌∙◌}
use Rattle.explore.specs.Replies.{AreReplies}
use Rattle.explore.specs.Texts.{outcome_text}
use Rattle.explore.proofs.Beginnings.{outcome_is}
use Rattle.explore.proofs.plan.Plan.outcome_of.Goals as goal

pub outcome_text-requires : goal.outcome_text-requires
outcome_text-requires g c = subst (λ es. AreReplies es c.in_ok-told.told) (c.records.ensures ∙ ap (λ h. h.records) c.history.ensures) c.in_ok-told.ensures

pub returns-clause-outcome : goal.returns-clause-outcome
returns-clause-outcome g c =
    let ran = c.in_ok-core.ensures.ran in
    c.in_ok-text.ensures ∙ ap outcome_text ran.2 ∙ sym (outcome_is c.args.self.now ran.0 c.args.order.now ran.1)

pub returns-clause-explained : goal.returns-clause-explained
returns-clause-explained g c =
    let k = c.in_ok-core.core in
    (k, c.in_ok-core.ensures.legal, c.legal_histories_are_serializable.ensures k.opening k.records c.in_ok-core.ensures.legal, c.in_ok-text.ensures)

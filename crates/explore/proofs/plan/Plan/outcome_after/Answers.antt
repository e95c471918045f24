use Rattle.std.proofs.Common.{ap, subst, sym, ◌∙◌}
use Rattle.explore.specs.Replies.{AreReplies}
use Rattle.explore.specs.Texts.{outcome_text}
use Rattle.explore.specs.Trails.{IsSaved}
use Rattle.explore.proofs.Beginnings.{outcome_is}
use Rattle.explore.proofs.plan.Plan.outcome_after.Goals as goal

pub resume-requires : goal.resume-requires
resume-requires g c = c.in_ok-follow.ensures.saved c.args.self.now c.requires.saved

pub finish-requires-clause-run : goal.finish-requires-clause-run
finish-requires-clause-run g c = subst (λ os. IsSaved c.args.self.now os c.in_ok-reached.reached) c.in_ok-follow.ensures.order c.in_ok-reached.ensures.run

pub outcome-requires : goal.outcome-requires
outcome-requires g c = subst (λ s. AreReplies s.core.records s.told) (sym c.saved.ensures) c.in_ok-finish.ensures.told

pub returns-clause-outcome : goal.returns-clause-outcome
returns-clause-outcome g c =
    let ran = c.in_ok-finish.ensures.ran in
    c.in_ok-text.ensures.outcome ∙ ap (λ s. outcome_text s.core) c.saved.ensures ∙ ap outcome_text ran.2 ∙ sym (outcome_is c.args.self.now ran.0 c.args.order.now ran.1)

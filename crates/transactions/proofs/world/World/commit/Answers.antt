use Rattle.std.proofs.Common.{ap, ◌∙◌}
use Rattle.history.specs.Answer.{commit_reply}
use Rattle.transactions.specs.Answers.{both}
use Rattle.transactions.proofs.world.World.commit.Goals as goal

pub returns-clause-reply : goal.returns-clause-reply
returns-clause-reply g c = λ d X. c.answer.ensures ∙ ap (λ o. both (commit_reply o)) (c.in_ok-cause.ensures.cause d X)

use Rattle.std.proofs.Common.{subst}
use Rattle.value.specs.Refusals.{AnswersOrNoMemory}
use Rattle.history.specs.Opening.{Recorded}
use Rattle.history.specs.Answer.{view_answer}
use Rattle.session.proofs.Lent.{viewed}
use Rattle.session.proofs.sessions.Core.view.Goals as goal

pub returns : goal.returns
returns g c =
    subst (λ (h : Recorded _). AnswersOrNoMemory c.view.result (view_answer h.opening h.records c.args.session)) c.self.view_is
    (viewed c.self.inside.history c.self.inside.world c.self.invariant.0 c.self.inside.rows c.self.invariant.2 c.args.session c.view.result c.view.ensures)

use Rattle.std.proofs.Common.{subst}
use Rattle.value.specs.Refusals.{AnswersOrNoMemory}
use Rattle.history.specs.Opening.{Recorded}
use Rattle.history.specs.Answer.{reader_answer}
use Rattle.session.proofs.Lent.{read}
use Rattle.session.proofs.sessions.Core.reader.Goals as goal

pub reader-requires : goal.reader-requires
reader-requires g c = c.self.invariant.2.current.order

pub returns : goal.returns
returns g c =
    subst (λ (h : Recorded _). AnswersOrNoMemory c.reader.result (reader_answer h.opening h.records c.args.session)) c.self.view_is
    (read c.self.inside.history c.self.inside.world c.self.invariant.0 c.self.inside.rows c.self.invariant.2 c.args.session c.reader.result c.reader.ensures)

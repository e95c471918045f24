use Rattle.value.specs.Refusals.{AnswersOrNoMemory}
use Rattle.std.proofs.Common.{subst}
use Rattle.history.specs.Answer.{reader_answer}
use Rattle.terminal.proofs.MarkLemmas.{allowed, marked}
use Rattle.terminal.proofs.marks.mark_on.Goals.{in-Ok, in-Err}
use Rattle.terminal.proofs.marks.mark_on.Goals as goal

pub returns-clause-mark : goal.returns-clause-mark
returns-clause-mark g c =
    let answer = reader_answer c.args.core.now.opening c.args.core.now.records c.args.session in
    elim c.match-reader.branch [
      | in-Ok w ↦ rw w.result-is (allowed _ answer (subst (λ r. AnswersOrNoMemory r answer) w.in-Ok.is c.reader.ensures))
      | in-Err w ↦ rw w.result-is (marked w.mark_of_refusal.result w.in-Err.refusal answer w.mark_of_refusal.ensures.mark w.mark_of_refusal.ensures.ample (subst (λ r. AnswersOrNoMemory r answer) w.in-Err.is c.reader.ensures))
    ]

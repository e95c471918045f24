use Rattle.std.proofs.Common.{subst, sym}
use Rattle.schema.specs.Adding.{added}
use Rattle.std.specs.Result.{result_ok}
use Rattle.transcript.specs.Outcomes.{Lacks}
use Rattle.transcript.proofs.OpeningLemmas.{not_added}
use Rattle.transcript.proofs.opening.add.Goals as goal

pub returns-in-Err-clause-err : goal.returns-in-Err-clause-err
returns-in-Err-clause-err g c =
    subst (λ e. Lacks e (result_ok (added c.args.catalog.now c.args.table))) (sym c.error_of.ensures)
    (not_added (added c.args.catalog.now c.args.table) c.in-Err.refusal _ (rw c.in-Err.is at c.add.ensures.answer))

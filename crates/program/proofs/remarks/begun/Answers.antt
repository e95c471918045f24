use Rattle.std.proofs.lemmas.Result.{IfOk-weaker}
use Rattle.program.proofs.CourseLemmas.{none_followed}
use Rattle.program.proofs.remarks.begun.Goals as goal

pub returns-in-None-clause-begun : goal.returns-in-None-clause-begun
returns-in-None-clause-begun g c = IfOk-weaker c.of.result _ _ (λ p is. none_followed c.args.history.now p is) c.of.ensures.ok

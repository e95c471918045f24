use Rattle.certificate.proofs.RuleLemmas.{no-cycle, not-sourceless, not-wayless}
use Rattle.certificate.proofs.laws.contradictions_refute.Goals as goal

pub returns-clause-cycle : goal.returns-clause-cycle
returns-clause-cycle g c = λ b exact order turns play k valid x y h. no-cycle b exact order turns play k valid x y h

pub returns-clause-sourceless : goal.returns-clause-sourceless
returns-clause-sourceless g c = λ b exact order turns play k valid cell y h. not-sourceless b exact order turns play k valid cell y h

pub returns-clause-wayless : goal.returns-clause-wayless
returns-clause-wayless g c = λ b exact order turns play k valid y s h. not-wayless b exact order turns play k valid y s h

use Rattle.certificate.proofs.StandingLemmas.{stood-at}
use Rattle.certificate.proofs.standing.Standing.stand_at.Goals as goal

pub returns-clause-ok : goal.returns-clause-ok
returns-clause-ok g c = stood-at c.args.self.now c.args.frame c.refute.new.self c.args.premise c.self.view_is c.frame.view_is c.in_ok-refute.ensures.ok

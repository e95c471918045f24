use Rattle.std.proofs.Common.{◌≡◌, sym, subst, ◌∷◌, IfOk}
use Rattle.certificate.specs.Certificates.{closed, outcome_of}
use Rattle.certificate.proofs.standing.Standing.turn_at.Goals as goal

pub returns-in-Some-clause-ok : goal.returns-in-Some-clause-ok
returns-in-Some-clause-ok g c =
    subst (λ o. IfOk c.stand_at.result (λ step. outcome_of step c.stand_at.new.self ≡ closed (c.args.frame ∷ c.args.self.now.outer) o)) (sym c.in-Some.is) c.stand_at.ensures.ok

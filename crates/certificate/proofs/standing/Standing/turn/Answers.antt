use Rattle.std.proofs.Common.{◌≡◌, refl, sym, ap, ◌∙◌, subst, [], ◌∷◌, IfOk}
use Rattle.certificate.specs.Certificates.{closed, outcome_of}
use Rattle.certificate.proofs.StandingLemmas.{ended-closed}
use Rattle.certificate.proofs.standing.Standing.turn.Goals as goal

pub returns-in-Some-clause-ok : goal.returns-in-Some-clause-ok
returns-in-Some-clause-ok g c =
    subst (λ o. IfOk c.turn_at.result (λ step. outcome_of step c.turn_at.new.self ≡ closed o c.args.self.now.assumed)) (sym c.in-Some.ensures.outer)
    (subst (λ a. IfOk c.turn_at.result (λ step. outcome_of step c.turn_at.new.self ≡ closed (c.in-Some.frame ∷ c.pop.new.self.outer) a)) (ap (λ s. s.assumed) c.self.view_is) c.turn_at.ensures.ok)

pub returns-in-None-clause-ok : goal.returns-in-None-clause-ok
returns-in-None-clause-ok g c =
    ap (λ step. outcome_of step c.pop.new.self) c.ended.ensures
    ∙ ended-closed c.pop.new.self c.self.inside.assumed
    ∙ ap (λ a. closed [] a) (ap (λ s. s.assumed) c.self.view_is)
    ∙ ap (λ o. closed o c.args.self.now.assumed) (sym (c.in-None.ensures.none refl))

use Rattle.std.proofs.Common.{◌≡◌, ◌∙◌, ap, subst, IfOk}
use Rattle.certificate.specs.Certificates.{outcome_of, closing}
use Rattle.certificate.specs.Numbers.{is_overfull}
use Rattle.certificate.proofs.recording.Recording.read_overfull.Goals as goal

pub returns-clause-ok : goal.returns-clause-ok
returns-clause-ok g c =
    subst (λ h. IfOk c.close.result (λ step. outcome_of step c.close.new.self ≡ closing c.args.standing.now h)) (c.in_ok-holds.ensures.ok ∙ ap (λ k. is_overfull c.args.self.now k c.args.place c.args.statement) c.known.ensures) c.close.ensures.ok

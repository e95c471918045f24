use Rattle.std.proofs.Common.{◌≡◌, ◌∙◌, ap, subst, IfOk}
use Rattle.certificate.specs.Certificates.{outcome_of, told}
use Rattle.certificate.specs.Knowledge.{with_excluded}
use Rattle.certificate.specs.Numbers.{is_too_few}
use Rattle.certificate.proofs.recording.Recording.read_too_few.Goals as goal

pub returns-clause-ok : goal.returns-clause-ok
returns-clause-ok g c =
    subst (λ h. IfOk c.tell_excluded.result (λ step. outcome_of step c.tell_excluded.new.self ≡ told c.args.standing.now h (with_excluded c.args.standing.now.known c.args.place c.args.spot.now c.args.way))) (c.in_ok-holds.ensures.ok ∙ ap (λ k. is_too_few c.args.self.now k c.args.place c.args.statement c.args.spot.now c.args.way) c.known.ensures) c.tell_excluded.ensures.ok

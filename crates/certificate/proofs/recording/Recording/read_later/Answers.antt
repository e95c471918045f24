use Rattle.std.proofs.Common.{◌≡◌, ◌∙◌, ap, subst, IfOk}
use Rattle.certificate.specs.Certificates.{outcome_of, told}
use Rattle.certificate.specs.Knowledge.{with_pair}
use Rattle.certificate.specs.Recorded.{board}
use Rattle.certificate.specs.Rules.{is_later}
use Rattle.certificate.proofs.recording.Recording.read_later.Goals as goal

pub returns-clause-ok : goal.returns-clause-ok
returns-clause-ok g c =
    subst (λ h. IfOk c.tell_pair.result (λ step. outcome_of step c.tell_pair.new.self ≡ told c.args.standing.now h (with_pair c.args.standing.now.known c.args.reader c.args.writer))) (c.in_ok-holds.ensures.ok ∙ ap (λ k. is_later (board c.args.self.now) k c.args.reader c.args.writer c.args.cell.now) c.known.ensures) c.tell_pair.ensures.ok

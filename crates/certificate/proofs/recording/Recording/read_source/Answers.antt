use Rattle.std.proofs.Common.{◌≡◌, ◌∙◌, ap, subst, IfOk}
use Rattle.certificate.specs.Certificates.{outcome_of, told}
use Rattle.certificate.specs.Knowledge.{with_pair, with_present}
use Rattle.certificate.specs.Recorded.{board}
use Rattle.certificate.specs.Rules.{is_source}
use Rattle.certificate.proofs.recording.Recording.read_source.Goals as goal

pub returns-clause-ok : goal.returns-clause-ok
returns-clause-ok g c =
    subst (λ h. IfOk c.tell_source.result (λ step. outcome_of step c.tell_source.new.self ≡ told c.args.standing.now h (with_present (with_pair c.args.standing.now.known c.args.source c.args.reader) c.args.source))) (c.in_ok-holds.ensures.ok ∙ ap (λ k. is_source (board c.args.self.now) k c.args.source c.args.reader c.args.cell.now) c.known.ensures) c.tell_source.ensures.ok

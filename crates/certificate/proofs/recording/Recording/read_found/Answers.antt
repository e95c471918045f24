use Rattle.std.proofs.Common.{◌≡◌, ◌∙◌, ap, subst, IfOk}
use Rattle.certificate.specs.Certificates.{outcome_of, told}
use Rattle.certificate.specs.Knowledge.{with_found}
use Rattle.certificate.specs.Recorded.{board}
use Rattle.certificate.specs.Rules.{is_found}
use Rattle.certificate.proofs.recording.Recording.read_found.Goals as goal

pub returns-clause-ok : goal.returns-clause-ok
returns-clause-ok g c =
    subst (λ h. IfOk c.tell_found.result (λ step. outcome_of step c.tell_found.new.self ≡ told c.args.standing.now h (with_found c.args.standing.now.known c.args.reader c.args.cell.now c.args.state.now))) (c.in_ok-holds.ensures.ok ∙ ap (λ k. is_found (board c.args.self.now) k c.args.state.now c.args.cell.now c.args.reader) c.known.ensures) c.tell_found.ensures.ok

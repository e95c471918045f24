use Rattle.std.proofs.Common.{sym, ap, ◌∙◌, ◌+◌, drop}
use Rattle.certificate.specs.Certificates.{On, Closed, judged, outcome_of}
use Rattle.certificate.proofs.CertificateLemmas.{closed-at, judged-next, taken-refutes}
use Rattle.certificate.proofs.checking.check.Goals as goal

pub loop-place-preserved : goal.loop-place-preserved
loop-place-preserved g c =
    c.loop-place.invariant
    ∙ judged-next c.args.recording.now c.args.lines.now c.loop-place.place c.index-lines-place.result c.loop-place.standing (On c.read.new.standing) c.loop-place-test.true c.index-lines-place.is
    (ap (λ step. outcome_of step c.read.new.standing) (sym c.in-On.is) ∙ c.in_ok-read.ensures.ok)

pub returns-in-Closed-clause-ok : goal.returns-in-Closed-clause-ok
returns-in-Closed-clause-ok g c =
    c.verdict_at.ensures
    ∙ sym (c.loop-place.invariant
    ∙ judged-next c.args.recording.now c.args.lines.now c.loop-place.place c.index-lines-place.result c.loop-place.standing Closed c.loop-place-test.true c.index-lines-place.is
    (ap (λ step. outcome_of step c.read.new.standing) (sym c.in-Closed.is) ∙ c.in_ok-read.ensures.ok)
    ∙ closed-at c.args.recording.now c.args.lines.now c.loop-place.place (λ t. judged c.args.recording.now (c.loop-place.place + 1) t (drop (c.loop-place.place + 1) c.args.lines.now)) c.loop-place-test.true)

pub returns-in-Closed-clause-taken : goal.returns-in-Closed-clause-taken
returns-in-Closed-clause-taken g c = λ e fit sound.
    taken-refutes c.args.recording.now c.args.lines.now
    (c.loop-place.invariant
    ∙ judged-next c.args.recording.now c.args.lines.now c.loop-place.place c.index-lines-place.result c.loop-place.standing Closed c.loop-place-test.true c.index-lines-place.is
    (ap (λ step. outcome_of step c.read.new.standing) (sym c.in-Closed.is) ∙ c.in_ok-read.ensures.ok)
    ∙ closed-at c.args.recording.now c.args.lines.now c.loop-place.place (λ t. judged c.args.recording.now (c.loop-place.place + 1) t (drop (c.loop-place.place + 1) c.args.lines.now)) c.loop-place-test.true
    ∙ sym c.verdict_at.ensures
    ∙ e)
    fit sound

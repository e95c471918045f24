use Rattle.std.proofs.Common.{◌≡◌, subst, sym, IfOk}
use Rattle.certificate.specs.Certificates.{next, outcome_of}
use Rattle.certificate.proofs.recording.Recording.read.Goals as goal

pub returns-in-Source-clause-ok : goal.returns-in-Source-clause-ok
returns-in-Source-clause-ok g c =
    subst (λ l. IfOk c.read_source.result (λ step. outcome_of step c.read_source.new.standing ≡ next c.args.self.now c.args.standing.now l)) (sym c.in-Source.is) c.read_source.ensures.ok

pub returns-in-Later-clause-ok : goal.returns-in-Later-clause-ok
returns-in-Later-clause-ok g c =
    subst (λ l. IfOk c.read_later.result (λ step. outcome_of step c.read_later.new.standing ≡ next c.args.self.now c.args.standing.now l)) (sym c.in-Later.is) c.read_later.ensures.ok

pub returns-in-Earlier-clause-ok : goal.returns-in-Earlier-clause-ok
returns-in-Earlier-clause-ok g c =
    subst (λ l. IfOk c.read_earlier.result (λ step. outcome_of step c.read_earlier.new.standing ≡ next c.args.self.now c.args.standing.now l)) (sym c.in-Earlier.is) c.read_earlier.ensures.ok

pub returns-in-Common-clause-ok : goal.returns-in-Common-clause-ok
returns-in-Common-clause-ok g c =
    subst (λ l. IfOk c.read_common.result (λ step. outcome_of step c.read_common.new.standing ≡ next c.args.self.now c.args.standing.now l)) (sym c.in-Common.is) c.read_common.ensures.ok

pub returns-in-Found-clause-ok : goal.returns-in-Found-clause-ok
returns-in-Found-clause-ok g c =
    subst (λ l. IfOk c.read_found.result (λ step. outcome_of step c.read_found.new.standing ≡ next c.args.self.now c.args.standing.now l)) (sym c.in-Found.is) c.read_found.ensures.ok

pub returns-in-Sourceless-clause-ok : goal.returns-in-Sourceless-clause-ok
returns-in-Sourceless-clause-ok g c =
    subst (λ l. IfOk c.read_sourceless.result (λ step. outcome_of step c.read_sourceless.new.standing ≡ next c.args.self.now c.args.standing.now l)) (sym c.in-Sourceless.is) c.read_sourceless.ensures.ok

pub returns-in-TooMany-clause-ok : goal.returns-in-TooMany-clause-ok
returns-in-TooMany-clause-ok g c =
    subst (λ l. IfOk c.read_too_many.result (λ step. outcome_of step c.read_too_many.new.standing ≡ next c.args.self.now c.args.standing.now l)) (sym c.in-TooMany.is) c.read_too_many.ensures.ok

pub returns-in-TooFew-clause-ok : goal.returns-in-TooFew-clause-ok
returns-in-TooFew-clause-ok g c =
    subst (λ l. IfOk c.read_too_few.result (λ step. outcome_of step c.read_too_few.new.standing ≡ next c.args.self.now c.args.standing.now l)) (sym c.in-TooFew.is) c.read_too_few.ensures.ok

use Rattle.certificate.proofs.AdditionLemmas.{not-beyond}
use Rattle.certificate.proofs.laws.additions_hold.Goals as goal

pub returns : goal.returns
returns g c = λ b exact reads counted order turns play k valid cell y h. not-beyond b exact reads counted order turns play k valid cell y h

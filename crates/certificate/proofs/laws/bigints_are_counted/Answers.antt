use Rattle.certificate.proofs.RecordingLemmas.{are-counted}
use Rattle.certificate.proofs.laws.bigints_are_counted.Goals as goal

pub returns : goal.returns
returns g c = λ catalog opening traces. are-counted catalog opening traces

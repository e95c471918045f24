use Rattle.certificate.proofs.RecordingLemmas.{board-exact}
use Rattle.certificate.proofs.laws.boards_are_exact.Goals as goal

pub returns : goal.returns
returns g c = λ catalog X ts. board-exact catalog X ts

use Rattle.serial.proofs.legal.Histories.{of_session-push}
use Rattle.serial.proofs.laws.of_one_session.Goals as goal

pub returns : goal.returns
returns g c = λ s es e. of_session-push s es e

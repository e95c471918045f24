use Rattle.serial.proofs.order.Promised.{legal_serializable}
use Rattle.serial.proofs.laws.legal_histories_are_serializable.Goals as goal

pub returns : goal.returns
returns g c = λ o es legal. legal_serializable o es legal

use Rattle.serial.proofs.order.SerialTheorem.{legal_serial}
use Rattle.serial.proofs.laws.serializable.Goals as goal

pub returns : goal.returns
returns g c = λ o es l. legal_serial o es l

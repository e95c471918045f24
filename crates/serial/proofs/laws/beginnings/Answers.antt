use Rattle.serial.proofs.legal.Later.{legal_begins}
use Rattle.serial.proofs.laws.beginnings.Goals as goal

pub returns : goal.returns
returns g c = λ o es more l. legal_begins o es more l

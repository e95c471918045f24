use Rattle.serial.proofs.legal.Later.{legal_stays}
use Rattle.serial.proofs.laws.later_events.Goals as goal

pub returns : goal.returns
returns g c = λ o es more l. legal_stays o es more l

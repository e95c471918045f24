use Rattle.serial.proofs.legal.DoneFromSnapshot.{all_done}
use Rattle.serial.proofs.laws.faithful.Goals as goal

pub returns : goal.returns
returns g c = λ o es l. all_done o es l

use Rattle.serial.proofs.needed.Cause.{hold_committer}
use Rattle.serial.proofs.laws.structures_hold_the_committer.Goals as goal

pub returns : goal.returns
returns g c = λ o es l s t p. hold_committer o es l s t p

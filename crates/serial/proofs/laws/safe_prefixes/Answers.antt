use Rattle.serial.proofs.safe.Prefix.{safe_are_safe}
use Rattle.serial.proofs.laws.safe_prefixes.Goals as goal

pub returns : goal.returns
returns g c = λ o es l. safe_are_safe o es l

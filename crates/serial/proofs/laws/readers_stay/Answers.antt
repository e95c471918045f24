use Rattle.serial.proofs.views.Elsewhere.{readers_stay}
use Rattle.serial.proofs.laws.readers_stay.Goals as goal

pub returns : goal.returns
returns g c = λ o es more s X Y legal none e f. readers_stay o es more s X Y legal none e f

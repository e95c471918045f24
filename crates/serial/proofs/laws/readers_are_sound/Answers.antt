use Rattle.serial.proofs.views.Sound.{reader_sound}
use Rattle.serial.proofs.laws.readers_are_sound.Goals as goal

pub returns : goal.returns
returns g c = λ o es s X legal e. reader_sound o es legal s X e

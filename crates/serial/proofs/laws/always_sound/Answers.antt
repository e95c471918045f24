use Rattle.serial.proofs.legal.AlwaysSound.{always_sound}
use Rattle.serial.proofs.laws.always_sound.Goals as goal

pub returns : goal.returns
returns g c = λ o es l n m. always_sound o es l n m

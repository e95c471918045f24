use Rattle.serial.proofs.views.Sound.{view_sound}
use Rattle.serial.proofs.laws.views_are_sound.Goals as goal

pub returns : goal.returns
returns g c = λ o es s X legal e. view_sound o es legal s X e

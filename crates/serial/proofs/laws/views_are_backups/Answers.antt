use Rattle.serial.proofs.views.Safe.{view_is_backup}
use Rattle.serial.proofs.laws.views_are_backups.Goals as goal

pub returns : goal.returns
returns g c = λ o es s X legal e. view_is_backup o es legal s X e

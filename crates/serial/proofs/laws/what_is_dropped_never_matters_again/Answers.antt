use Rattle.history.specs.Events.{world_of}
use Rattle.serial.proofs.needed.Later.{needed_later, shrunk}
use Rattle.serial.proofs.needed.Events.{follows_kept}
use Rattle.serial.proofs.needed.Raised.{least_is, least_kept, raised}
use Rattle.serial.proofs.needed.From.{oldest_later}
use Rattle.serial.proofs.needed.Questions.{oldest_told}
use Rattle.serial.proofs.laws.what_is_dropped_never_matters_again.Goals as goal

pub returns : goal.returns
returns g c = record {
  later = λ o es l s a n keep fits h new. needed_later o es l s a n keep fits h new;
  oldest = λ o es l s a n fits old most. oldest_later o es l s a n fits old most;
  event = λ o es l n keep h s t e a r. follows_kept o es l n keep h s t e a r;
  alone = λ o es l n keep h. shrunk (world_of o es) n keep h;
  least = λ o es l n old. least_kept (world_of o es) n old;
  these = λ o es l n. least_is o es l n;
  told = λ o es l n m keep h old. oldest_told o es l n m keep h old;
  raised = λ o es l n m keep h k old. raised (world_of o es) n m keep h k old;
}

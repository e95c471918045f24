use Rattle.serial.proofs.needed.Cause.{cause_kept}
use Rattle.serial.proofs.needed.Questions.{key_kept, pending_kept, spoilt_kept}
use Rattle.serial.proofs.needed.Replies.{current_of_kept, dooms_kept, living_of_kept, taken_kept}
use Rattle.history.specs.Events.{world_of}
use Rattle.serial.proofs.needed.World.{replies_kept}
use Rattle.serial.proofs.laws.what_is_kept_answers_alike.Goals as goal

pub returns : goal.returns
returns g c = record {
  reply = λ o es l n keep h s a. replies_kept o es l n keep h s a;
  cause = λ o es l s t n keep p h. cause_kept o es l s t n keep p h;
  key = λ o es l s t n keep p h. key_kept o es l s t n keep p h;
  spoilt = λ o es l s t n keep p h k. spoilt_kept o es l s t n keep p h k;
  pending = λ o es l n keep h t. pending_kept o es l n keep h t;
  dooms = λ o es l s t n keep p h. dooms_kept o es l s t n keep p h;
  taken = λ o es l s t n keep p h k. taken_kept o es l s t n keep p h k;
  session = λ o es l n keep h s. current_of_kept (world_of o es) n keep h s;
  living = λ o es l n keep h x. living_of_kept (world_of o es) n keep h x;
}

use Rattle.alike.proofs.Twins.{alike_back}
use Rattle.alike.proofs.Classes.{world_itself, alike_onward}
use Rattle.alike.proofs.Steps.{orderly_world}
use Rattle.history.specs.Events.{world_of}
use Rattle.alike.proofs.laws.likeness_is_an_equivalence.Goals as goal

pub returns : goal.returns
returns g c = record {
  itself = λ o es l. world_itself (world_of o es) (orderly_world o es l);
  back = λ o p es fs l m h. alike_back (world_of o es) (world_of p fs) h;
  onward = λ o p q es fs gs l m n h k. alike_onward (world_of o es) (world_of p fs) (world_of q gs) h k;
}

use Rattle.history.specs.Transactions.{commits}
use Rattle.history.specs.Events.{world_of}
use Rattle.serial.proofs.legal.EndsSeen.{ends_seen}
use Rattle.serial.proofs.legal.Legal.{current_in}
use Rattle.serial.proofs.order.SerialTheorem.{good_world}
use Rattle.std.proofs.Common.{arith}
use Rattle.session.proofs.Spoilt.{none_above, spoilt_is}
use Rattle.session.proofs.laws.spoilt_by_keys.Goals as goal

pub returns : goal.returns
returns g c = record {
  told = λ o es l s t p. spoilt_is (world_of o es) (good_world o es l) (ends_seen o es l) t (current_in (world_of o es) s t p.0).0;
  shown = λ o es l. none_above (world_of o es) (good_world o es l) (commits (world_of o es)) (omega arith);
}

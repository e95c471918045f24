-- Every legal history is serializable.
use Rattle.std.proofs.Common.{◌≡◌, sym, subst, true, List, [], ◌∷◌, ◌++◌}
use Rattle.schema.specs.Definition.{Catalog}
use Rattle.schema.specs.Plain.{is_sound}
use Rattle.history.specs.declared.event.Record.{Record}
use Rattle.history.specs.Opening.{Opening}
use Rattle.history.specs.Transactions.{tables_at}
use Rattle.history.specs.Events.{start, world_of}
use Rattle.history.specs.Serial.{IsSafeReply}
use Rattle.history.specs.Answer.{Legal}
use Rattle.serial.specs.Laws.{polled_safe}
use Rattle.serial.specs.Serializable.{IsSerializable}
use Rattle.serial.proofs.legal.AlwaysSound.{always_sound}
use Rattle.serial.proofs.legal.Histories.{run-catalog}
use Rattle.serial.proofs.legal.Later.{legal_stays}
use Rattle.serial.proofs.safe.Prefix.{safe_are_safe}
use Rattle.serial.proofs.safe.Reply.{safe_reply}
use Rattle.serial.proofs.order.SerialTheorem.{legal_serial}

module _ {A : Type 0} where
  pub legal_serializable : (o : Opening A) (es : List (Record A)) → Legal o es → IsSerializable o es
  legal_serializable o es l = record {
    serial = legal_serial o es l;
    safe = safe_are_safe o es l;
    replies = λ before after s n e. subst (λ rs. IsSafeReply (world_of o (before ++ polled_safe s n ∷ [])) (world_of o rs) s n) (sym e) (safe_reply o before s n after (subst (Legal o) e l));
    stays = λ more m. legal_stays o es more m;
    sound = λ n h. subst (λ (c : Catalog). is_sound c (tables_at (world_of o es) n) ≡ true) (run-catalog (start o) es) (always_sound o es l n h);
  }

-- What holds of every legal history.
-- Ports and Grittner, "Serializable Snapshot Isolation in PostgreSQL" (VLDB 2012), sections 3 and 4.
use Rattle.std.specs.Prelude.{◌≡◌, ℕ, ◌≤◌, true, List, [], ◌∷◌, ◌++◌}
use Rattle.schema.specs.Plain.{is_sound}
use Rattle.history.specs.declared.event.Record.{Record}
use Rattle.history.specs.Opening.{Opening}
use Rattle.history.specs.Transactions.{commits, tables_at}
use Rattle.history.specs.Events.{world_of}
use Rattle.history.specs.Serial.{IsSafeReply, IsSerial, SafeAreSafe, Stays, serial_order}
use Rattle.history.specs.Answer.{Legal}
use Rattle.serial.specs.Laws.{polled_safe}

module _ {A : Type 0} where
  -- The history of these events is serializable: its committed transactions are serial in the order of their keys.
  -- Each snapshot that is known to be safe, and each that a POLL was answered, is a prefix of that order.
  -- More events change no key, no tables of a commit and not the order of what there was, and what is safe stays so. The tables of each commit are sound.
  pub record IsSerializable (o : Opening A) (es : List (Record A)) : Type 0 where
    pub serial : IsSerial (world_of o es) (serial_order (world_of o es))
    pub safe : SafeAreSafe (world_of o es)
    pub replies : (before after : List (Record A)) (s n : ℕ) → es ≡ before ++ polled_safe s n ∷ after → IsSafeReply (world_of o (before ++ polled_safe s n ∷ [])) (world_of o es) s n
    pub stays : (more : List (Record A)) → Legal o (es ++ more) → Stays (world_of o es) (world_of o (es ++ more))
    pub sound : (n : ℕ) → n ≤ commits (world_of o es) → is_sound o.catalog (tables_at (world_of o es) n) ≡ true

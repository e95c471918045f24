-- What is promised of the tables that a session may view: they are a state of the serial order.
-- Ports and Grittner, "Serializable Snapshot Isolation in PostgreSQL" (VLDB 2012), sections 4.2 and 4.3; PostgreSQL manual, SET TRANSACTION and pg_export_snapshot.
use Rattle.std.specs.Prelude.{◌≡◌, ℕ, ◌==◌, Bool, true, false, not, ◌&&◌, Some, List, [], ◌∷◌, ◌++◌}
use Rattle.std.specs.List.{filter}
use Rattle.schema.specs.declared.tables.Tables.{Tables}
use Rattle.history.specs.declared.event.Record.{Record}
use Rattle.history.specs.Opening.{Opening}
use Rattle.history.specs.Transactions.{Txn, World, current, is_deferrable, tables_at}
use Rattle.history.specs.Events.{world_of}
use Rattle.history.specs.Serial.{HasEarlier, IsSafe}
use Rattle.history.specs.Answer.{Legal}
use Rattle.serial.specs.Serializable.{IsSerializable}

module _ {A : Type 0} where
  -- d took the snapshot of t itself, by its own BEGIN or POLL: at the place at which t's was taken, which goes with a snapshot through exports and imports
  abbrev pub took : Txn A → Txn A → Bool
  took t d = not d.imported && d.taken == t.taken

  -- The source of t's snapshot is d: it alone took that snapshot, is deferrable, and was answered that it is safe.
  -- Where t has imported nothing, that is t itself; else the one from which the snapshot came, through however many imports.
  pub record IsSource (w : World A) (t d : Txn A) : Type 0 where
    pub took_it : filter (took t) w.txns ≡ d ∷ []
    pub is_deferrable : is_deferrable d.mode ≡ true
    pub is_known : d.known ≡ true
    pub snapshot : d.snapshot ≡ t.snapshot
    pub own : t.imported ≡ false → d ≡ t

  -- The tables X are a state of the serial order: that of the safe snapshot s, whose prefix holds each transaction that had committed before d began.
  pub record IsState (w : World A) (s : ℕ) (d : Txn A) (X : Tables A) : Type 0 where
    pub tables : X ≡ tables_at w s
    pub safe : IsSafe w s
    pub has_earlier : HasEarlier w d

  -- The tables X that the session may view are those of its transaction's snapshot, which the deferrable transaction at its source, the session's own or the one that it imports from, has found to be safe;
  -- the history is serializable, they are a state of its serial order, and both stay so whatever is done later.
  pub record IsBackup (o : Opening A) (es : List (Record A)) (session : ℕ) (X : Tables A) : Type 0 where
    pub transaction : Txn A
    pub is_current : current (world_of o es) session ≡ Some transaction
    pub is_known : transaction.known ≡ true
    pub source : Txn A
    pub is_source : IsSource (world_of o es) transaction source
    pub serializable : IsSerializable o es
    pub state : IsState (world_of o es) transaction.snapshot source X
    pub stays : (more : List (Record A)) → Legal o (es ++ more) → IsSerializable o (es ++ more) × IsState (world_of o (es ++ more)) transaction.snapshot source X

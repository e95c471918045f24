-- What a POLL is told of the snapshot that it asks for.
-- Source: Ports and Grittner, "Serializable Snapshot Isolation in PostgreSQL" (VLDB 2012), section 4.3.
use Rattle.std.specs.Prelude.{◌≡◌, Bool, true, Option, Some, List}
use Rattle.history.specs.declared.event.Action.{Action}
use Rattle.history.specs.declared.event.Action.TheVariants.{Poll}
use Rattle.history.specs.Transactions.{Txn, is_open, is_spoilt, must_wait}

module _ {A : Type 0} where
  -- Of the action of t, where that is a POLL which waits for a safe snapshot, it is told whether t's snapshot can't become safe.
  abbrev pub IsToldSpoilt : List (Txn A) → Txn A → Action A → Bool → Type 0
  IsToldSpoilt ts t Poll spoilt = must_wait t ≡ true → spoilt ≡ is_spoilt ts t
  IsToldSpoilt ts t _ spoilt = Unit {0}

  -- So it is of the session's transaction, if it has an open one.
  abbrev pub AreToldSpoilt : List (Txn A) → Option (Txn A) → Action A → Bool → Type 0
  AreToldSpoilt ts o a spoilt = (t : Txn A) → o ≡ Some t → is_open t.standing ≡ true → IsToldSpoilt ts t a spoilt

-- The first of the open transactions that may write: who took a snapshot before it began waits for nobody.
-- Source: Ports and Grittner, "Serializable Snapshot Isolation in PostgreSQL" (VLDB 2012), section 4.2.
use Rattle.std.specs.Prelude.{ℕ, ◌&&◌, if◌then◌else◌, min, List, fold}
use Rattle.history.specs.Transactions.{Txn, is_open, is_read_write}

module _ {A : Type 0} where
  -- the lesser of a place and of that at which t began, where it may write and is open
  abbrev pub before_active : ℕ → Txn A → ℕ
  before_active place t = if is_read_write t.mode && is_open t.standing then min t.begin place else place

  -- the least of a place and of those at which these began that may write and are open
  abbrev pub first_among : ℕ → List (Txn A) → ℕ
  first_among place ts = fold before_active place ts

  -- the place at which the first of these began that may write and are open; the greatest number where there is none
  abbrev pub first_active : List (Txn A) → ℕ
  first_active ts = first_among 18446744073709551615 ts

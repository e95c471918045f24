-- What is forgotten: transactions that no later question asks for, and identifiers that don't live.
-- Source: Ports and Grittner, "Serializable Snapshot Isolation in PostgreSQL" (VLDB 2012), section 6, on what may be cleaned up.
use Rattle.std.specs.Prelude.{◌≡◌, ℕ, zero, suc, ◌+◌, ◌==◌, nat_le, nat_lt, Bool, not, ◌&&◌, ◌||◌, List, length, filter}
use Rattle.std.specs.List.{list_any}
use Rattle.history.specs.Transactions.{Txn, edge, is_done, is_living, is_open, is_owed, is_read_write}
use Rattle.history.specs.Needed.{is_late_reader, is_needed, is_recent}
use Rattle.transactions.specs.declared.kept.least.Which.{Which}
use Rattle.transactions.specs.declared.kept.least.Which.TheVariants.{Owed, HoldingBack, Recent}
use Rattle.transactions.specs.Active.{first_active}
use Rattle.transactions.specs.Ledger.{Ledger, txn_at}
use Rattle.transactions.specs.Versions.{least_snapshot}

module _ {A : Type 0} where
  -- it only reads, and its snapshot is known to be safe, or is one of these and was taken no later than this place
  abbrev pub is_safe_from : List ℕ → ℕ → Txn A → Bool
  is_safe_from unspoilt first t = not (is_read_write t.mode) && (t.known || nat_le t.taken first && list_any (λ n. n == t.snapshot) unspoilt)

  -- it is open, and no such reader
  abbrev pub holds_back : List ℕ → ℕ → Txn A → Bool
  holds_back unspoilt first t = is_open t.standing && not (is_safe_from unspoilt first t)

  -- the least snapshot of one that holds back, where no commit has spoilt these snapshots; n where none has one below that
  abbrev pub oldest_of : List ℕ → ℕ → List (Txn A) → ℕ
  oldest_of unspoilt n ts = least_snapshot (holds_back unspoilt (first_active ts)) n ts

  -- the snapshot from which on questions are asked, where no commit has spoilt these
  abbrev pub oldest : List ℕ → Ledger A → ℕ
  oldest unspoilt l = oldest_of unspoilt l.base.commits l.txns

  -- those whose snapshots are looked at
  abbrev pub is_looked_at : List ℕ → Which → Txn A → Bool
  is_looked_at unspoilt Owed t = is_owed t.standing
  is_looked_at unspoilt (HoldingBack first) t = holds_back unspoilt first t
  is_looked_at unspoilt (Recent n) t = is_recent n t

  -- It matters, where the recent ones are among these, and none has a snapshot below reach.
  abbrev pub is_needed_among : ℕ → ℕ → List (Txn A) → Txn A → Bool
  is_needed_among n reach ts u =
      is_owed u.standing || is_recent n u || is_late_reader n u || is_done u.standing && (nat_lt reach u.commit && list_any (λ v. is_recent n v && edge v u) ts)

  -- the least snapshot of those that are recent
  abbrev pub least_of_recent : ℕ → List (Txn A) → ℕ
  least_of_recent n ts = least_snapshot (is_recent n) 18446744073709551615 ts

  -- the greatest number of the first k, which are in the order of their numbers; 0 where that is none
  abbrev pub number_before : ℕ → List (Txn A) → ℕ
  number_before zero ts = 0
  number_before (suc k) ts = (txn_at ts k).number

  -- It is one of the first k, or it matters.
  abbrev pub is_left : ℕ → ℕ → List (Txn A) → Txn A → Bool
  is_left k n ts u = nat_le u.number (number_before k ts) || is_needed n ts u

  -- Of the transactions those are left that matter, where no commit has spoilt these snapshots, and some from the front, of the identifiers those that live, in their order; and as many numbers are
  -- used up as before.
  pub record IsThinned (unspoilt : List ℕ) (l m : Ledger A) : Type 0 where
    pub passed : ℕ
    pub txns : m.txns ≡ filter (is_left passed (oldest unspoilt l) l.txns) l.txns
    pub exports : m.exports ≡ filter (is_living l.txns) l.exports
    pub transactions : m.base.transactions + length m.txns ≡ l.base.transactions + length l.txns
    pub commits : m.base.commits ≡ l.base.commits
    pub identifiers : m.base.identifiers + length m.exports ≡ l.base.identifiers + length l.exports
    pub events : m.base.events ≡ l.base.events
    pub place : m.place ≡ l.place

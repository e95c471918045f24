-- Versions of rows that stand for the tables at the snapshots that may still be read.
-- Source: Ports and Grittner, "Serializable Snapshot Isolation in PostgreSQL" (VLDB 2012), on snapshot isolation.
use Rattle.std.specs.Prelude.{◌≡◌, ℕ, ◌+◌, ◌≤◌, ◌<◌, ◌==◌, nat_le, Bool, true, ◌||◌, if◌then◌else◌, min, List, [], ◌∷◌}
use Rattle.std.specs.List.{list_any}
use Rattle.schema.specs.declared.changes.Change.{Change}
use Rattle.schema.specs.declared.tables.Tables.{Tables}
use Rattle.schema.specs.Plain.{put_all}
use Rattle.history.specs.Transactions.{Txn, is_owed}
use Rattle.mvrows.specs.Settling.{Needed}
use Rattle.mvrows.specs.Versions.{VersionedRows, AreInOrder, TablesAreBelow, shown}
use Rattle.transactions.specs.Ledger.{Ledger}

module _ {A : Type 0} where
  -- the tables that versions show, by commit numbers
  abbrev pub versions_at : List (VersionedRows A) → ℕ → Tables A
  versions_at rows n = shown n rows

  -- the number of the next commit
  abbrev pub next_commit : Ledger A → ℕ
  next_commit l = l.base.commits + 1

  -- the least snapshot of those that pass a test, n where none has one below that
  abbrev pub least_snapshot : (Txn A → Bool) → ℕ → List (Txn A) → ℕ
  least_snapshot p n [] = n
  least_snapshot p n (t ∷ ts) = if p t then min t.snapshot (least_snapshot p n ts) else least_snapshot p n ts

  -- the least snapshot of a transaction that its session has still to end, n where none has one below that
  abbrev pub lowest_of : ℕ → List (Txn A) → ℕ
  lowest_of n ts = least_snapshot (λ t. is_owed t.standing) n ts

  -- the least snapshot that may still be read: that of all commits where no session has a transaction
  abbrev pub lowest : Ledger A → ℕ
  lowest l = lowest_of l.base.commits l.txns

  -- the snapshots of transactions that their sessions have still to end
  abbrev pub owed_snapshots : List (Txn A) → List ℕ
  owed_snapshots [] = []
  owed_snapshots (t ∷ ts) = if is_owed t.standing then t.snapshot ∷ owed_snapshots ts else owed_snapshots ts

  -- one of these transactions, which its session has still to end, has this snapshot
  abbrev pub is_owed_at : ℕ → List (Txn A) → Bool
  is_owed_at n ts = list_any (λ s. s == n) (owed_snapshots ts)

  -- a snapshot that may still be read: that of all commits or of later ones too, or that of a transaction which its session has still to end
  abbrev pub may_be_read : Ledger A → ℕ → Bool
  may_be_read l n = nat_le l.base.commits n || is_owed_at n l.txns

  -- what may still be read once the number of a commit stands: snapshots of these transactions, and that commit
  abbrev pub needed_of : ℕ → List (Txn A) → Needed
  needed_of number ts = record { oldest = lowest_of number ts; snapshots = owed_snapshots ts }

  -- The versions are in key order, and of commits so far.
  pub record AreCurrent (l : Ledger A) (rows : List (VersionedRows A)) : Type 0 where
    pub order : AreInOrder rows
    pub below : TablesAreBelow (next_commit l) rows

  -- After an event that commits these changes the versions are current again. To the snapshots that may still be read they show what they did,
  -- from the number of the commit on with its changes put in.
  pub record StayShown (l : Ledger A) (rows : List (VersionedRows A)) (xs : List (Change A)) (m : Ledger A) (more : List (VersionedRows A)) : Type 0 where
    pub current : AreCurrent m more
    pub earlier : (n : ℕ) → may_be_read m n ≡ true → n < next_commit l → shown n more ≡ shown n rows
    pub later : (n : ℕ) → may_be_read m n ≡ true → next_commit l ≤ n → shown n more ≡ put_all xs (shown n rows)

  -- After a commit as this number the versions are of commits up to it. To the snapshots below it that are needed they show what they did, from it on with these changes put in.
  pub record IsInstalled (needed : Needed) (number : ℕ) (xs : List (Change A)) (rows more : List (VersionedRows A)) : Type 0 where
    pub order : AreInOrder more
    pub below : TablesAreBelow (number + 1) more
    pub earlier : (n : ℕ) → needed.oldest ≤ n → list_any (λ s. s == n) needed.snapshots ≡ true → n < number → shown n more ≡ shown n rows
    pub later : (n : ℕ) → needed.oldest ≤ n → number ≤ n → shown n more ≡ put_all xs (shown n rows)

  -- an event that adds no commit
  abbrev pub HasSameCommits : Ledger A → Ledger A → Type 0
  HasSameCommits l m = m.base ≡ l.base

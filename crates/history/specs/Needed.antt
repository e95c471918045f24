-- Which transactions of a history still matter: what each later question to it needs of those that are over.
-- The SSI paper forgets in its section on memory usage what overlaps no active transaction; here it is said exactly, and the answers to all later events are proved to need no more.
use Rattle.std.specs.Prelude.{◌≡◌, ℕ, ◌≤◌, nat_lt, Bool, true, false, not, ◌&&◌, ◌||◌, ◌⊎◌, ◌==◌, Some, List}
use Rattle.std.specs.List.{filter, list_any, AllByRecursion}
use Rattle.value.specs.Isolation.{is_dangerous}
use Rattle.history.specs.Transactions.{Txn, World, node, edge, current, is_open, is_done, is_owed, is_pending, is_read_write, is_spoilt}
use Rattle.history.specs.Events.{numbered}
use Rattle.history.specs.Answer.{committing}

module _ {A : Type 0} where
  -- a committed read-write one whose number is above n
  abbrev pub is_recent : ℕ → Txn A → Bool
  is_recent n u = is_done u.standing && is_read_write u.mode && nat_lt n u.commit

  -- a committed one that only reads, isn't known to be safe, and whose snapshot is above n
  abbrev pub is_late_reader : ℕ → Txn A → Bool
  is_late_reader n u = is_done u.standing && not (is_read_write u.mode) && not u.known && nat_lt n u.snapshot

  -- a committed one to which a recent one has an edge
  abbrev pub is_met : ℕ → List (Txn A) → Txn A → Bool
  is_met n ts u = is_done u.standing && list_any (λ v. is_recent n v && edge v u) ts

  -- What matters of the transactions ts, where no question to come is asked at a snapshot below n: those whose session has still to end them,
  -- and of the committed ones the recent, the late readers, and those that a recent one meets.
  abbrev pub is_needed : ℕ → List (Txn A) → Txn A → Bool
  is_needed n ts u = is_owed u.standing || is_recent n u || is_late_reader n u || is_met n ts u

  -- t's snapshot is safe by now: of those that may write and were active at it none is open still, and none committed with an edge to a commit that it shows
  abbrev pub is_settled : List (Txn A) → Txn A → Bool
  is_settled ts t = not (is_pending ts t) && not (is_spoilt ts t)

  -- A transaction only reads, and from a safe snapshot, whether that was asked for or not. PostgreSQL has no locks of it from then on (SXACT_FLAG_RO_SAFE),
  -- and so from its BEGIN on where it begins while no transaction is open that may write (GetSerializableTransactionSnapshotInt).
  abbrev pub is_safe_reader : List (Txn A) → Txn A → Bool
  is_safe_reader ts t = not (is_read_write t.mode) && (t.known || is_settled ts t)

  -- No open transaction has a snapshot below n, but safe readers.
  abbrev pub IsOldest : World A → ℕ → Type 0
  IsOldest w n = AllByRecursion (λ t. is_open t.standing ≡ true → is_safe_reader w.txns t ≡ false → n ≤ t.snapshot) w.txns

  -- Those whose numbers are kept have all that matters.
  pub record Keeps (w : World A) (n : ℕ) (keep : ℕ → Bool) : Type 0 where
    pub oldest : IsOldest w n
    pub needed : AllByRecursion (λ u. is_needed n w.txns u ≡ true → keep u.number ≡ true) w.txns

  -- the transactions whose numbers are kept
  abbrev pub kept_of : (ℕ → Bool) → List (Txn A) → List (Txn A)
  kept_of keep ts = filter (λ u. keep u.number) ts

  -- the numbers of those that matter
  abbrev pub needed_numbers : ℕ → List (Txn A) → ℕ → Bool
  needed_numbers n ts i = list_any (λ u. u.number == i && is_needed n ts u) ts

  -- the world with those alone that are kept
  abbrev pub thin : (ℕ → Bool) → World A → World A
  thin keep w = record w { txns = kept_of keep w.txns }

  -- t is the open transaction of session s
  abbrev pub IsOpenOf : World A → ℕ → Txn A → Type 0
  IsOpenOf w s t = (current w s ≡ Some t) × (is_open t.standing ≡ true)

  -- A dangerous structure that the commit of t would make has t as its first or as its middle one.
  abbrev pub HoldCommitter : World A → Txn A → Type 0
  HoldCommitter w t = AllByRecursion (λ a. AllByRecursion (λ b. AllByRecursion (λ c.
      is_dangerous node edge a b c ≡ true → (a ≡ numbered w t) ⊎ (b ≡ numbered w t)) (committing w t)) (committing w t)) (committing w t)

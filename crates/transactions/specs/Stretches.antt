-- Stretches of transactions that are over, which a question may pass over where none of them can be what it asks for.
-- Source: Ports and Grittner, "Serializable Snapshot Isolation in PostgreSQL" (VLDB 2012), section 6.1: what committed before a snapshot was taken can't conflict with it.
use Rattle.std.specs.Prelude.{◌≡◌, ℕ, ◌+◌, ◌-◌, ◌<◌, ◌≤◌, nat_le, nat_lt, Bool, true, false, ◌&&◌, if◌then◌else◌, max, List, [], ◌++◌, length, take, drop}
use Rattle.std.specs.List.{AllByRecursion, list_any}
use Rattle.history.specs.Transactions.{Txn, is_open, is_owed}
use Rattle.transactions.specs.declared.kept.stretch.Stretch.{Stretch}

-- a stretch of none, at a place
abbrev pub none_at : ℕ → Stretch
none_at n = record { from = n; to = n; newest = 0; until = 0 }

-- two stretches, one right behind the other, as one
abbrev pub joined : Stretch → Stretch → Stretch
joined s t = record { from = s.from; to = t.to; newest = max s.newest t.newest; until = max s.until t.until }

-- the transaction at a place is one of the stretch
abbrev pub has_place : ℕ → Stretch → Bool
has_place at s = nat_le s.from at && nat_lt at s.to

-- the stretches where the transaction at a place may change: none, where it is in one
abbrev pub without : ℕ → List Stretch → List Stretch
without at ss = if list_any (has_place at) ss then [] else ss

module _ {A : Type 0} where
  -- It is over, was over before a place, and neither its commit nor its snapshot is a number above that of a snapshot.
  pub record IsPast (snapshot place : ℕ) (u : Txn A) : Type 0 where
    pub over : is_owed u.standing ≡ false
    pub seen : u.commit ≤ snapshot
    pub begun : u.snapshot ≤ snapshot
    pub ended : u.end < place

  -- the transactions from a place on, before another
  abbrev pub between : ℕ → ℕ → List (Txn A) → List (Txn A)
  between from to ts = take (to - from) (drop from ts)

  -- The stretch is one of these transactions.
  pub record HoldsStretch (s : Stretch) (ts : List (Txn A)) : Type 0 where
    pub order : s.from ≤ s.to
    pub within : s.to ≤ length ts
    pub past : AllByRecursion (IsPast s.newest (s.until + 1)) (between s.from s.to ts)

  -- Each of the stretches is one of these transactions.
  abbrev pub HoldStretches : List Stretch → List (Txn A) → Type 0
  HoldStretches ss ts = AllByRecursion (λ s. HoldsStretch s ts) ss

  -- The transaction is open, and it is the one of its number among these.
  pub record IsAmongOpen (t : Txn A) (ts : List (Txn A)) : Type 0 where
    pub active : is_open t.standing ≡ true
    pub alone : AllByRecursion (λ u. u.number ≡ t.number → u ≡ t) ts

  -- The stretch begins at a place or behind it, and ends behind it, and its transactions are past to a snapshot and at a place of an event.
  pub record IsPassed (snapshot place at : ℕ) (s : Stretch) (ts : List (Txn A)) : Type 0 where
    pub behind : at ≤ s.from
    pub order : s.from ≤ s.to
    pub further : at < s.to
    pub within : s.to ≤ length ts
    pub past : AllByRecursion (IsPast snapshot place) (between s.from s.to ts)

  -- The two lists have all of these transactions, but for some between them that are past to a snapshot and at a place.
  pub record IsAround (snapshot place : ℕ) (ts front back : List (Txn A)) : Type 0 where
    pub between : List (Txn A)
    pub whole : ts ≡ front ++ (between ++ back)
    pub past : AllByRecursion (IsPast snapshot place) between

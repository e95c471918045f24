-- Worlds that are alike: each action of each session gets the same reply in both, but for numbers, and leaves worlds that are alike.
-- A transaction that its session has still to end is named by its session, a committed one by what it did. Its number, the places of its BEGIN and its end, and what doomed it don't matter.
use Rattle.std.specs.Prelude.{◌≡◌, ◌⊎◌, ◌≤◌, ℕ, ◌==◌, Bool, true, ◌&&◌, ◌||◌, List, [], ◌∷◌, filter, map}
use Rattle.std.specs.List.{list_any, AllByRecursion}
use Rattle.siread.specs.Reads.{CoverAlike}
use Rattle.history.specs.Transactions.{Standing, Open, Doomed, Failed, Done, Txn, World, Exported_snapshot, commits, is_done, is_open, is_owed, is_read_write, must_wait, tables_at, was_active}
use Rattle.history.specs.Events.{next_identifier}
use Rattle.history.specs.Needed.{Keeps, thin}

-- one of a list has it
abbrev pub SomeOf : {X : Type 0} → (X → Type 0) → List X → Type 0
SomeOf Has [] = ⊥
SomeOf Has (x ∷ xs) = Has x ⊎ SomeOf Has xs

module _ {A : Type 0} where
  -- ---- transactions

  -- open, and it may write
  abbrev pub is_writer : Txn A → Bool
  is_writer t = is_open t.standing && is_read_write t.mode

  -- open, and it waits for a safe snapshot
  abbrev pub is_waiting : Txn A → Bool
  is_waiting t = is_open t.standing && must_wait t

  -- its session has still to end it, or it has committed
  abbrev pub counts : Txn A → Bool
  counts t = is_owed t.standing || is_done t.standing

  -- They see and did the same.
  pub record DidAlike (t u : Txn A) : Type 0 where
    pub mode : t.mode ≡ u.mode
    pub snapshot : t.snapshot ≡ u.snapshot
    pub commit : t.commit ≡ u.commit
    pub reads : CoverAlike t.reads u.reads
    pub changes : t.changes ≡ u.changes
    pub marks : t.marks ≡ u.marks

  -- What they do next finds the same.
  pub record FindAlike (t u : Txn A) : Type 0 where
    pub known : t.known ≡ u.known
    pub asked : t.asked ≡ u.asked

  -- t, of the one world, and u, of the other, were active at the snapshots of the same sessions' transactions that wait.
  abbrev pub WereActiveAlike : World A → World A → Txn A → Txn A → Type 0
  WereActiveAlike w v t u = AllByRecursion (λ x. is_waiting x ≡ true → AllByRecursion (λ y. is_waiting y ≡ true → x.session ≡ y.session → was_active x t ≡ was_active y u) v.txns) w.txns

  -- They stand alike. Tables of an open one's own are those at its snapshot with its changes. One that is doomed or has failed does nothing any more.
  abbrev pub StandAlike : World A → World A → Standing → Standing → Txn A → Txn A → Type 0
  StandAlike w v Open Open t u = DidAlike t u × FindAlike t u × WereActiveAlike w v t u × (tables_at w t.snapshot ≡ tables_at v u.snapshot)
  StandAlike w v Done Done t u = DidAlike t u × WereActiveAlike w v t u
  StandAlike w v (Doomed c) (Doomed d) t u = Unit {0}
  StandAlike w v Failed Failed t u = Unit {0}
  StandAlike w v _ _ t u = ⊥

  -- transactions of one session that stand alike
  abbrev pub AreTwins : World A → World A → Txn A → Txn A → Type 0
  AreTwins w v t u = (t.session ≡ u.session) × StandAlike w v t.standing u.standing t u

  -- ---- exported snapshots

  -- the session's open transaction has exported it
  abbrev pub is_exporter : ℕ → Exported_snapshot → Txn A → Bool
  is_exporter s x t = t.number == x.exporter && is_open t.standing && t.session == s

  abbrev pub is_exported_by : World A → ℕ → Exported_snapshot → Bool
  is_exported_by w s x = list_any (is_exporter s x) w.txns

  -- An import of either gives the same.
  pub record ShowAlike (w v : World A) (x y : Exported_snapshot) : Type 0 where
    pub id : x.id ≡ y.id
    pub snapshot : x.snapshot ≡ y.snapshot
    pub known : x.known ≡ y.known
    pub tables : tables_at w x.snapshot ≡ tables_at v y.snapshot

  -- ---- worlds

  -- What is in the world w has its like in the world v.
  pub record HasLike (w v : World A) : Type 0 where
    pub txns : AllByRecursion (λ t. counts t ≡ true → SomeOf (AreTwins w v t) v.txns) w.txns
    pub exports : AllByRecursion (λ x. (s : ℕ) → is_exported_by w s x ≡ true → SomeOf (λ y. (is_exported_by v s y ≡ true) × ShowAlike w v x y) v.exports) w.exports

  -- Two worlds are alike: what is in the one has its like in the other, they have the same last tables and next numbers,
  -- and the sessions of the open transactions that may write are in one order, that of their BEGINs: it decides which of them a commit dooms.
  pub record Alike (w v : World A) : Type 0 where
    pub catalog : w.catalog ≡ v.catalog
    pub last : commits w ≡ commits v
    pub identifiers : next_identifier w ≡ next_identifier v
    pub tables : tables_at w (commits w) ≡ tables_at v (commits v)
    pub writers : map (λ t. t.session) (filter is_writer w.txns) ≡ map (λ t. t.session) (filter is_writer v.txns)
    pub there : HasLike w v
    pub back : HasLike v w

  -- What matters of them is alike: some of each one's transactions, and among them all that matter (history/specs/Needed), make worlds that are alike.
  pub record MatterAlike (w v : World A) : Type 0 where
    pub oldest : ℕ
    pub keep : ℕ → Bool
    pub keeps : Keeps w oldest keep
    pub seen : oldest ≤ commits w
    pub other_oldest : ℕ
    pub other_keep : ℕ → Bool
    pub other_keeps : Keeps v other_oldest other_keep
    pub other_seen : other_oldest ≤ commits v
    pub alike : Alike (thin keep w) (thin other_keep v)

-- The serial order, and what it means that a history has one.
-- Sources: the SSI paper, its sections on serializability theory (the apparent serial order) and on safe snapshots; PostgreSQL's manual, "Serializable Isolation Level": the effect is that of the transactions run one at a time.
use Rattle.std.specs.Prelude.{◌≡◌, ℕ, ◌≤◌, nat_lt, nat_le, Bool, true, false, not, ◌&&◌, ◌||◌, Some, List, [], ◌∷◌, ◌++◌, map}
use Rattle.std.specs.List.{filter, list_all, AllByRecursion}
use Rattle.std.specs.List.Sorted.{IsPermutation}
use Rattle.schema.specs.Definition.{Catalog}
use Rattle.schema.specs.declared.tables.Tables.{Tables}
use Rattle.statement.specs.declared.statement.Statement.{Statement}
use Rattle.statement.specs.declared.reply.Reply.{Reply}
use Rattle.statement.specs.declared.reading.Reading.{Reading}
use Rattle.statement.specs.declared.outcome.Mark.{Mark}
use Rattle.schema.specs.declared.changes.Change.{Change}
use Rattle.statement.specs.Evaluation.{outcome, after}
use Rattle.statement.specs.Footprint.{footprint}
use Rattle.value.specs.Isolation.{serial_key, sorted}
use Rattle.history.specs.Transactions.{Txn, World, node, edge, is_done, is_read_write, is_deferrable, commits, tables_at, current}

module _ {A : Type 0} where
  -- ---- keys and order

  -- the committed transactions, in the order in which they began
  abbrev pub committed : World A → List (Txn A)
  committed w = filter (λ t. is_done t.standing) w.txns

  -- the serial key of a committed transaction
  abbrev pub key : World A → Txn A → ℕ × ℕ × ℕ
  key w t = serial_key node edge (committed w) t

  -- the committed transactions in the order of their keys
  abbrev pub serial_order : World A → List (Txn A)
  serial_order w = sorted (key w) (committed w)

  -- the committed transactions in the order of their commits
  abbrev pub in_commit_order : World A → List (Txn A)
  in_commit_order w = sorted (λ t. (t.end, 0, 0)) (committed w)

  -- the numbers of these transactions, each with its key
  abbrev pub with_keys : World A → List (Txn A) → List (ℕ × (ℕ × ℕ × ℕ))
  with_keys w ts = map (λ t. (t.number, key w t)) ts

  -- the committed transactions with their keys, in the order of their commits
  abbrev pub keys_by_commit : World A → List (ℕ × (ℕ × ℕ × ℕ))
  keys_by_commit w = with_keys w (in_commit_order w)

  -- ---- a serial order

  -- The statements, done one after the other from X, give exactly these replies and end at Y.
  abbrev pub Alone : Catalog → List (Statement A × Reply A) → Tables A → Tables A → Type 0
  Alone c [] X Y = Y ≡ X
  Alone c (q ∷ qs) X Y = ((outcome c q.0 X).reply ≡ q.1) × Alone c qs (after c q.0 X) Y

  -- The transactions run alone, one after the other, each from where the one before it ended.
  abbrev pub InTurn : Catalog → List (Txn A) → Tables A → Type 0
  InTurn c [] X = Unit {0}
  InTurn c (t ∷ ts) X = (Y : Tables A) × Alone c t.statements X Y × InTurn c ts Y

  -- A had ended before B began, and B has not imported its snapshot
  abbrev pub precedes : Txn A → Txn A → Bool
  precedes a b = nat_lt a.end b.begin && not b.imported

  -- None that comes later had ended before an earlier one began.
  abbrev pub InTime : List (Txn A) → Type 0
  InTime [] = Unit {0}
  InTime (b ∷ later) = AllByRecursion (λ a. precedes a b ≡ true → ⊥) later × InTime later

  -- A list is a serial order of what was committed.
  pub record IsSerial (w : World A) (order : List (Txn A)) : Type 0 where
    pub each_once : IsPermutation (committed w) order
    pub in_turn : InTurn w.catalog order w.opening
    pub in_time : InTime order

  -- The transactions with these numbers are, in that order, a serial order.
  abbrev pub IsSerialList : World A → List ℕ → Type 0
  IsSerialList w numbers = (order : List (Txn A)) × (map (λ t. t.number) order ≡ numbers) × IsSerial w order

  -- ---- safe snapshots

  -- No commit above s has an edge to a commit at most s.
  abbrev pub is_safe_at : World A → ℕ → Bool
  is_safe_at w s = list_all (λ t. nat_le t.commit s || list_all (λ u. not (edge t u && nat_le u.commit s)) w.log) w.log

  -- the transactions of the serial order whose key has a first part of at most s
  abbrev pub prefix : World A → ℕ → List (Txn A)
  prefix w s = filter (λ t. nat_le (key w t).0 s) (serial_order w)

  -- The transactions run alone, one after the other, from X to Z.
  abbrev pub RunsTo : Catalog → List (Txn A) → Tables A → Tables A → Type 0
  RunsTo c [] X Z = Z ≡ X
  RunsTo c (t ∷ ts) X Z = (Y : Tables A) × Alone c t.statements X Y × RunsTo c ts Y Z

  -- of the transactions that may write, the prefix has those whose commits are at most s
  abbrev pub HasCommits : World A → ℕ → Type 0
  HasCommits w s = AllByRecursion (λ t. is_read_write t.mode ≡ true → nat_le (key w t).0 s ≡ nat_le t.commit s) (committed w)

  -- What is promised of a snapshot that is known to be safe: no commit above it has an edge to one that it shows;
  -- its prefix is a beginning of the serial order, of the transactions that may write has those that it shows, and ends at its tables.
  pub record IsSafe (w : World A) (s : ℕ) : Type 0 where
    pub safe_at : is_safe_at w s ≡ true
    pub is_beginning : (rest : List (Txn A)) × (serial_order w ≡ prefix w s ++ rest)
    pub has_commits : HasCommits w s
    pub runs_to : RunsTo w.catalog (prefix w s) w.opening (tables_at w s)

  -- The prefix at t's snapshot has each transaction that had committed before t began.
  abbrev pub HasEarlier : World A → Txn A → Type 0
  HasEarlier w t = AllByRecursion (λ u. nat_lt u.end t.begin ≡ true → nat_le (key w u).0 t.snapshot ≡ true) (committed w)

  -- What is promised of a transaction whose snapshot is known to be safe: it is, and where the transaction has not imported it, its prefix has all that had committed before the transaction began.
  -- Of an importer that isn't so: commits may lie between the snapshot and its own begin.
  abbrev pub IsSafeFor : World A → Txn A → Type 0
  IsSafeFor w t = IsSafe w t.snapshot × (t.imported ≡ false → HasEarlier w t)

  -- Each snapshot that is known to be safe is.
  abbrev pub SafeAreSafe : World A → Type 0
  SafeAreSafe w = AllByRecursion (λ t. t.known ≡ true → IsSafeFor w t) w.txns

  -- What stays so after more events, where v is what the world w has become: keys, the order of those that had ended, tables, and what is known to be safe.
  pub record Stays (w v : World A) : Type 0 where
    pub keys : AllByRecursion (λ t. key v t ≡ key w t) (committed w)
    pub order : serial_order w ≡ filter (λ t. nat_le t.end w.place) (serial_order v)
    pub tables : (n : ℕ) → n ≤ commits w → tables_at v n ≡ tables_at w n
    pub safe : AllByRecursion (λ t. t.known ≡ true → IsSafeFor v t) w.txns

  -- What is promised where a POLL of session s was answered Safe n: w is the world after it, and v what that has become.
  -- The transaction so answered is deferrable and has imported nothing; its snapshot n is safe, and the prefix has all that had committed before it began.
  pub record IsSafeReply (w v : World A) (s n : ℕ) : Type 0 where
    pub transaction : Txn A
    pub is_current : current w s ≡ Some transaction
    pub is_deferrable : is_deferrable transaction.mode ≡ true
    pub is_own : transaction.imported ≡ false
    pub snapshot : transaction.snapshot ≡ n
    pub safe : IsSafe v n
    pub has_earlier : HasEarlier v transaction

  -- ---- what the records of transactions say

  -- what these statements, done one after the other, read
  abbrev pub read_by : Catalog → List (Statement A × Reply A) → List (Reading A)
  read_by c [] = []
  read_by c (q ∷ qs) = footprint c q.0 ++ read_by c qs

  -- what these statements, done one after the other, change
  abbrev pub changed_by : Catalog → List (Statement A × Reply A) → Tables A → List (Change A)
  changed_by c [] X = []
  changed_by c (q ∷ qs) X = (outcome c q.0 X).changes ++ changed_by c qs (after c q.0 X)

  -- the references that these statements, done one after the other, mark as read
  abbrev pub marked_by : Catalog → List (Statement A × Reply A) → Tables A → List (Mark A)
  marked_by c [] X = []
  marked_by c (q ∷ qs) X = (outcome c q.0 X).marks ++ marked_by c qs (after c q.0 X)

  -- A transaction's own tables, replies, reads, changes and marks are those of its statements done from the tables at its snapshot.
  pub record IsDoneFromSnapshot (w : World A) (t : Txn A) : Type 0 where
    pub replies : Alone w.catalog t.statements (tables_at w t.snapshot) t.own
    pub reads : t.reads ≡ read_by w.catalog t.statements
    pub changes : t.changes ≡ changed_by w.catalog t.statements (tables_at w t.snapshot)
    pub marks : t.marks ≡ marked_by w.catalog t.statements (tables_at w t.snapshot)

  -- Each transaction's own tables, replies, reads, changes and marks are those of its statements done from the tables at its snapshot.
  abbrev pub AllDoneFromSnapshots : World A → Type 0
  AllDoneFromSnapshots w = AllByRecursion (λ t. IsDoneFromSnapshot w t) w.txns

  -- ---- checkpoints

  -- v is the world after a history on the base of w, and x the world after the same events as events of w's own history.
  pub record ContinuesOn (w v x : World A) : Type 0 where
    pub order : serial_order x ≡ serial_order w ++ serial_order v
    pub keys_before : AllByRecursion (λ t. key x t ≡ key w t) (committed w)
    pub keys_after : AllByRecursion (λ t. key x t ≡ key v t) (committed v)
    pub tables : (n : ℕ) → commits w ≤ n → tables_at x n ≡ tables_at v n

-- What the records of a history tell of its transactions, beside what the history has of them.
use Rattle.std.specs.Prelude.{◌≡◌, ℕ, ◌+◌, ◌==◌, true, false, if◌then◌else◌, Some, None, is_some, List, [], ◌∷◌}
use Rattle.history.specs.declared.base.Base.{Base}
use Rattle.history.specs.Transactions.{Txn, World, commits, edge, is_open, is_owed, is_read_write, must_wait}
use Rattle.retrace.specs.Edges.{edge_between}
use Rattle.retrace.specs.Runs.{Going}

-- Two lists are of one length, and each element of the one has this to do with the other's in its place.
abbrev pub PlaceByPlace : {T U : Type 0} → (T → U → Type 0) → List T → List U → Type 0
PlaceByPlace R [] [] = Unit {0}
PlaceByPlace R (x ∷ xs) (y ∷ ys) = R x y × PlaceByPlace R xs ys
PlaceByPlace R _ _ = ⊥

-- a number that is counted from 1 above a base, with what was counted before; 0 stays 0
abbrev pub counted : ℕ → ℕ → ℕ
counted base n = if n == 0 then 0 else base + n

module _ {A : Type 0} where
  -- What is told of a transaction is what the history has of it, where numbers and places are counted above the base.
  -- While it waits for a safe snapshot it reads nothing, and of the snapshots that it takes till then nothing is told.
  pub record Tells (b : Base) (g : Going A) (t : Txn A) : Type 0 where
    pub session : g.trace.session ≡ t.session
    pub number : b.transactions + g.trace.number ≡ t.number
    pub read_write : g.trace.read_write ≡ is_read_write t.mode
    pub begin : b.events + g.trace.begin ≡ t.begin
    pub snapshot : must_wait t ≡ false → b.commits + g.trace.snapshot ≡ t.snapshot
    pub commit : counted b.commits g.trace.commit ≡ t.commit
    pub reads : g.trace.reads ≡ t.reads
    pub changes : g.trace.changes ≡ t.changes
    pub marks : g.trace.marks ≡ t.marks
    pub own : is_open t.standing ≡ true → g.own ≡ (if is_read_write t.mode then Some t.own else None)
    pub owed : g.owed ≡ is_owed t.standing
    pub active : g.active ≡ is_open t.standing

  -- Each transaction of the history is told, and nothing else.
  abbrev pub TellAll : Base → List (Going A) → List (Txn A) → Type 0
  TellAll b gs ts = PlaceByPlace (Tells b) gs ts

  -- a transaction, which counts as committing now where it hasn't committed
  abbrev pub committing_now : World A → Txn A → Txn A
  committing_now w u = if u.commit == 0 then record u { commit = commits w + 1 } else u

  -- A conflict is told, by what shows it, where the history has one, and nowhere else.
  abbrev pub TellEdge : World A → Going A → Txn A → Going A → Txn A → Type 0
  TellEdge w g t h u = is_some (edge_between g.trace h.trace) ≡ edge t (committing_now w u)

  -- So it is of any two transactions.
  abbrev pub TellEdges : World A → List (Going A) → Type 0
  TellEdges w gs = PlaceByPlace (λ g t. PlaceByPlace (TellEdge w g t) gs w.txns) gs w.txns

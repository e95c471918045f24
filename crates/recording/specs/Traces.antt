-- What is recorded of the transactions of a history, as the check of recorded histories reads it of any database.
-- Sources: Papadimitriou, "The serializability of concurrent database updates" (JACM 1979), for orders; Herlihy and Wing, "Linearizability" (TOPLAS 1990), for the times of requests and replies.
use Rattle.std.specs.Prelude.{◌≡◌, ℕ, ◌≤◌, true, Option, Some, None, IfSome, List, [], ◌∷◌, map, filter_map, slice_get}
use Rattle.std.specs.List.Sorted.{IsPermutation}
use Rattle.schema.specs.Definition.{Catalog}
use Rattle.history.specs.Transactions.{Txn, World}
use Rattle.history.specs.Serial.{committed}
use Rattle.orders.specs.Explains.{Trace, Explains, are_fit}

module _ {A : Type 0} where
  -- a committed transaction by the places of its events
  abbrev pub trace_of : Txn A → Trace A
  trace_of t = record { begin = t.begin; end = Some t.end; imported = t.imported; statements = t.statements }

  -- the committed transactions, in the order in which they began
  abbrev pub traces : World A → List (Trace A)
  traces w = map trace_of (committed w)

  -- The order explains the traces: places of them do at which its transactions stand, one after the other.
  pub record IsExplainedBy (w : World A) (order : List (Txn A)) : Type 0 where
    pub places : List ℕ
    pub stand : map (slice_get (committed w)) places ≡ map Some order
    pub explains : Explains w.catalog w.opening (traces w) places

  -- ---- by a clock of one's own

  -- What a client may record of a transaction: its BEGIN was sent before it began, and the reply to its COMMIT came, if at all, after it had ended.
  pub record IsToldBy (clock : ℕ → ℕ) (t : Txn A) (r : Trace A) : Type 0 where
    pub begin : r.begin ≤ clock t.begin
    pub end : IfSome r.end (λ e. clock t.end ≤ e)
    pub imported : t.imported ≡ true → r.imported ≡ true
    pub statements : r.statements ≡ t.statements

  -- What a client may record of a committed transaction; or of one that isn't, if no reply to a COMMIT came: whatever its statements were answered.
  abbrev pub IsToldOf : Catalog → (ℕ → ℕ) → Option (Txn A) → Trace A → Type 0
  IsToldOf c clock (Some t) r = IsToldBy clock t r
  IsToldOf c clock None r = (r.end ≡ None) × (are_fit c r.statements ≡ true)

  abbrev pub AreToldOf : Catalog → (ℕ → ℕ) → List (Option (Txn A)) → List (Trace A) → Type 0
  AreToldOf c clock [] [] = Unit {0}
  AreToldOf c clock (o ∷ os) (r ∷ rs) = IsToldOf c clock o r × AreToldOf c clock os rs
  AreToldOf c clock _ _ = ⊥

  -- What clients may record of a history: each committed transaction once, and any number of others to whose COMMIT no reply came, in whatever order, by a clock that doesn't go back.
  pub record IsRecording (w : World A) (rs : List (Trace A)) : Type 0 where
    pub clock : ℕ → ℕ
    pub steady : (m n : ℕ) → m ≤ n → clock m ≤ clock n
    pub told : List (Option (Txn A))
    pub each_once : IsPermutation (committed w) (filter_map (λ o. o) told)
    pub each : AreToldOf w.catalog clock told rs

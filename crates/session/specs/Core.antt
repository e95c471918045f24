-- What a core keeps, and what a step does to its history.
use Rattle.std.specs.Prelude.{◌≡◌, ◌⊎◌, ◌+◌, ◌^◌, ◌<◌, ◌≤◌, Bool, true, false, Result, Ok, Err, length, map, List, [], ◌∷◌, ◌++◌, ℕ}
use Rattle.value.specs.Refusals.{AnswersOrNoMemory, of_code, out_of_memory}
use Rattle.value.specs.declared.refusal.Refusal.{Refusal}
use Rattle.value.specs.declared.refusal.TxnNo.{TxnNo}
use Rattle.value.specs.declared.refusal.Code.TheVariants.{ProgramLimitExceeded}
use Rattle.schema.specs.declared.tables.Tables.{Tables}
use Rattle.statement.specs.declared.statement.Statement.{Statement}
use Rattle.statement.specs.Evaluation.{outcome}
use Rattle.statement.specs.declared.reply.Reply.{Reply}
use Rattle.statement.specs.declared.reply.Reply.TheVariants.{Refused}
use Rattle.history.specs.declared.event.Action.{Action}
use Rattle.history.specs.declared.event.Action.TheVariants.{Commit}
use Rattle.history.specs.declared.event.Record.{Record}
use Rattle.history.specs.declared.key.SerialKey.{SerialKey}
use Rattle.history.specs.Opening.{Opening, Recorded}
use Rattle.history.specs.Events.{world}
use Rattle.history.specs.Answer.{IsLegal, answer, checkpoint_answer, reader_answer}
use Rattle.history.specs.Serial.{keys_by_commit}
use Rattle.transactions.specs.Courses.{takes_memory}
use Rattle.transactions.specs.Keys.{keyed}
use Rattle.history.specs.Transactions.{tables_at}
use Rattle.transactions.specs.Ledger.{Ledger}
use Rattle.transactions.specs.Versions.{AreCurrent, may_be_read}
use Rattle.mvrows.specs.Versions.{VersionedRows, shown}
use Rattle.session.specs.Kept.{Represents}

module _ {A : Type 0} where
  -- The history is legal, what is kept represents its world, and its events can be counted.
  pub record IsKept (h : Recorded A) (l : Ledger A) : Type 0 where
    pub legal : IsLegal h
    pub represents : Represents (world h) l
    pub room : h.opening.base.events + h.most < 2 ^ 64

  -- The list has the committed transactions with their keys, in the order of their commits, and it has room for as many as the history may have events.
  pub record HoldsKeys (h : Recorded A) (ks : List (TxnNo × SerialKey)) (capacity : ℕ) : Type 0 where
    pub keys : map keyed ks ≡ keys_by_commit (world h)
    pub few : length ks ≤ length h.records
    pub room : h.most ≤ capacity

  -- The versions are of the commits so far, and show the tables at each snapshot that may still be read.
  pub record HoldsRows (h : Recorded A) (l : Ledger A) (rows : List (VersionedRows A)) : Type 0 where
    pub current : AreCurrent l rows
    pub shown : (n : ℕ) → may_be_read l n ≡ true → shown n rows ≡ tables_at (world h) n

  -- the action by which transactions commit
  abbrev pub is_commit : Action A → Bool
  is_commit Commit = true
  is_commit _ = false

  -- the history with one more event
  abbrev pub recorded : Recorded A → ℕ → Action A → Reply A → Recorded A
  recorded h s a r = record h { records = h.records ++ record { session = s; action = a; reply = r } ∷ [] }

  -- the history has room for a further event
  abbrev pub HasRoom : Recorded A → Type 0
  HasRoom h = length h.records < h.most

  -- The action of session s was answered as the definitions say, and the history h has become k, where that is recorded.
  abbrev pub IsAnswered : Recorded A → Recorded A → ℕ → Action A → Reply A → Type 0
  IsAnswered h k s a r = (r ≡ answer h.opening h.records s a) × (k ≡ recorded h s a r)

  -- An action that takes memory got none, and the history h is as it was, which is k now.
  abbrev pub IsLeft : Recorded A → Recorded A → Action A → Refusal → Type 0
  IsLeft h k a e = (takes_memory a ≡ true) × (e ≡ out_of_memory) × (k ≡ h)

  -- The action of session s was answered with r, and the history h has become k: the answer of the definitions, recorded;
  -- or the history is full or, where the action takes memory, there is none, and nothing has changed.
  abbrev pub IsStep : Recorded A → Recorded A → ℕ → Action A → Reply A → Type 0
  IsStep h k s a r =
      HasRoom h × (r ≡ answer h.opening h.records s a) × (k ≡ recorded h s a r)
      ⊎ ((length h.records ≡ h.most) × (r ≡ Refused (of_code ProgramLimitExceeded)) × (k ≡ h) ⊎ HasRoom h × (takes_memory a ≡ true) × (r ≡ Refused out_of_memory) × (k ≡ h))

  -- the history of nothing yet from an opening, or the refusal to open it
  abbrev pub from_opening : ℕ → Result (Opening A) Refusal → Result (Recorded A) Refusal
  from_opening most (Ok o) = Ok (record { opening = o; records = []; most = most })
  from_opening most (Err e) = Err e

  -- The history goes on from its present opening; or it is refused, and is as it was.
  abbrev pub IsCheckpoint : Recorded A → ℕ → Result (Recorded A) (Recorded A × Refusal) → Type 0
  IsCheckpoint h most (Ok next) = from_opening most (checkpoint_answer h.opening h.records most) ≡ Ok next
  IsCheckpoint h most (Err back) = (back.0 ≡ h) × AnswersOrNoMemory (Err back.1) (from_opening most (checkpoint_answer h.opening h.records most))

  -- The reply is what the statement answers on the tables that the session's transaction sees, if it may read.
  abbrev pub IsFoundReply : Opening A → List (Record A) → ℕ → Statement A → Reply A → Type 0
  IsFoundReply o es s q r = (X : Tables A) → reader_answer o es s ≡ Ok X → r ≡ (outcome o.catalog q X).reply

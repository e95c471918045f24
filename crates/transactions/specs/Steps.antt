-- What an event of a session leaves of what is kept.
use Rattle.std.specs.Prelude.{◌≡◌, ℕ, true, Option, List}
use Rattle.value.specs.Refusals.{out_of_memory}
use Rattle.value.specs.declared.refusal.Refusal.{Refusal}
use Rattle.schema.specs.Definition.{Catalog}
use Rattle.schema.specs.declared.tables.Tables.{Tables}
use Rattle.statement.specs.declared.statement.Statement.{Statement}
use Rattle.history.specs.declared.event.Action.{Action}
use Rattle.history.specs.declared.event.Action.TheVariants.{Run}
use Rattle.history.specs.Transactions.{Txn}
use Rattle.history.specs.Answer.{reply_of, run_reply}
use Rattle.mvrows.specs.Versions.{VersionedRows}
use Rattle.transactions.specs.declared.answers.answered.Answered.{Answered}
use Rattle.transactions.specs.Answers.{both}
use Rattle.transactions.specs.Courses.{takes_memory}
use Rattle.transactions.specs.Ledger.{Ledger, after_owned, committed_by, kept_after, ready_for, with_own, world_on}
use Rattle.transactions.specs.Versions.{HasSameCommits, StayShown, versions_at}

module _ {A : Type 0} where
  -- Action a of session s, whose transaction is o if it has one, was answered with given, and has taken the ledger l to m and the versions rows to more.
  -- Whatever tables the world opened with, the session and the history are told the reply that is due, the ledger is what is kept after it, and the versions show what it commits.
  pub record IsStepped (c : Catalog) (s : ℕ) (a : Action A) (o : Option (Txn A)) (l : Ledger A) (rows : List (VersionedRows A)) (given : Answered A) (m : Ledger A) (more : List (VersionedRows A)) : Type 0 where
    pub reply : (X : Tables A) → given ≡ both (reply_of (world_on c X l) (ready_for (versions_at rows) a o) a)
    pub world : (X : Tables A) → m ≡ kept_after (world_on c X l) s a given.reply (ready_for (versions_at rows) a o)
    pub versions : StayShown l rows (committed_by a given.reply o) m more

  -- Action a, which takes memory, got none, and left the ledger l and the versions rows as they were, which are m and more now.
  pub record IsUndone (a : Action A) (e : Refusal) (l : Ledger A) (rows : List (VersionedRows A)) (m : Ledger A) (more : List (VersionedRows A)) : Type 0 where
    pub memory : e ≡ out_of_memory
    pub taken : takes_memory a ≡ true
    pub world : m ≡ l
    pub versions : more ≡ rows

  -- Statement q of the open transaction t, over these tables by commit numbers, was answered with given, and has taken the ledger l to m, which adds no commit.
  pub record HasRun (c : Catalog) (tables : ℕ → Tables A) (t : Txn A) (q : Statement A) (l : Ledger A) (given : Answered A) (m : Ledger A) : Type 0 where
    pub reply : (X : Tables A) → given ≡ both (run_reply (world_on c X l) (with_own tables t) q)
    pub world : (X : Tables A) → m ≡ after_owned (world_on c X l) (Run q) given.reply (with_own tables t)
    pub log : HasSameCommits l m

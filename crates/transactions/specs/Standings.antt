-- How the program keeps a transaction: how it stands, and as what it begins.
use Rattle.std.specs.Prelude.{ℕ, false, []}
use Rattle.value.specs.declared.refusal.Mode.{Mode}
use Rattle.history.specs.Transactions as course
use Rattle.history.specs.Transactions.{Txn}
use Rattle.transactions.specs.declared.transaction.Standing.{Standing}
use Rattle.transactions.specs.declared.transaction.Standing.TheVariants.{Open, Doomed, Failed, Aborted, Done}

-- how a transaction stands
abbrev pub standing_of : Standing → course.Standing
standing_of Open = course.Open
standing_of (Doomed cause) = course.Doomed cause
standing_of Failed = course.Failed
standing_of Aborted = course.Aborted
standing_of Done = course.Done

module _ {A : Type 0} where
  -- a session's transaction of this number at its BEGIN, the event at this place, after so many commits
  abbrev pub begun_at : ℕ → Mode → ℕ → ℕ → ℕ → Txn A
  begun_at session mode number place commits = record {
    session = session;
    number = number;
    mode = mode;
    begin = place;
    standing = course.Open;
    end = 0;
    commit = 0;
    snapshot = commits;
    taken = place;
    imported = false;
    known = false;
    asked = false;
    statements = [];
    own = [];
    reads = [];
    changes = [];
    marks = [];
  }

-- How a transaction stands and what it sees, apart from what its statements have done.
use Rattle.std.specs.Prelude.{Bool, true, false}
use Rattle.history.specs.declared.event.Action.{Action}
use Rattle.history.specs.declared.event.Action.TheVariants.{Run, Poll, Export, Commit, Rollback}
use Rattle.history.specs.Transactions.{Txn}
use Rattle.statement.specs.declared.reply.Reply.{Reply}
use Rattle.statement.specs.declared.reply.Reply.TheVariants.{Rows}
use Rattle.transactions.specs.declared.answers.course.Course.{Course}
use Rattle.transactions.specs.Standings.{standing_of}
use Rattle.transactions.specs.Ledger.{kept}

module _ {A : Type 0} where
  -- a transaction on this course; it is kept without statements and own tables
  abbrev pub on_course : Course → Txn A → Txn A
  on_course c t = record (kept t) {
    standing = standing_of c.standing;
    end = c.end;
    commit = c.commit;
    snapshot = c.snapshot;
    taken = c.taken;
    imported = c.imported;
    known = c.known;
    asked = c.asked;
  }

  -- an action that adds nothing but an event, whatever is answered
  abbrev pub is_simple : Action A → Bool
  is_simple (Run q) = false
  is_simple Export = false
  is_simple Commit = false
  is_simple _ = true

  -- POLL and ROLLBACK alone take no memory, whatever is answered
  abbrev pub takes_memory : Action A → Bool
  takes_memory Poll = false
  takes_memory Rollback = false
  takes_memory _ = true

  -- a reply that holds no memory
  abbrev pub IsBrief : Reply A → Type 0
  IsBrief (Rows rows) = ⊥
  IsBrief _ = Unit {0}

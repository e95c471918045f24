-- The course of a transaction as its session's records tell it: when it began and committed, and what its statements were answered.
use Rattle.std.specs.Prelude.{ℕ, ◌+◌, ◌-◌, ◌==◌, Bool, true, false, ◌&&◌, if◌then◌else◌, ◌≡◌, Option, Some, List, [], ◌∷◌, ◌++◌, length, slice_get}
use Rattle.std.specs.List.{list_any}
use Rattle.statement.specs.declared.statement.Statement.{Statement}
use Rattle.statement.specs.declared.reply.Reply.{Reply}
use Rattle.statement.specs.declared.reply.Reply.TheVariants.{Committed, Imported}
use Rattle.history.specs.declared.event.Action.{Action}
use Rattle.history.specs.declared.event.Action.TheVariants.{Begin, Run, Import, Commit, Rollback}
use Rattle.history.specs.declared.event.Record.{Record}
use Rattle.history.specs.Transactions.{Txn, is_owed, is_done}
use Rattle.history.specs.Answer.{is_refused}

-- Numbers and places are counted from 1 above the base.
pub record Track (A : Type 0) : Type 0 where
  pub session : ℕ
  pub number : ℕ
  pub begin : ℕ  -- the place of its BEGIN
  pub end : ℕ  -- the place of its commit; 0 where it has none
  pub owed : Bool  -- its session has still to end it
  pub committed : Bool
  pub imported : Bool
  pub statements : List (Statement A × Reply A)  -- those answered without a refusal

module _ {A : Type 0} where
  -- the course of a transaction, above a base of so many transactions and events
  abbrev pub course_of : ℕ → ℕ → Txn A → Track A
  course_of transactions events t = record {
    session = t.session;
    number = t.number - transactions;
    begin = t.begin - events;
    end = if is_done t.standing then t.end - events else 0;
    owed = is_owed t.standing;
    committed = is_done t.standing;
    imported = t.imported;
    statements = t.statements;
  }

  abbrev pub is_committed : Reply A → Bool
  is_committed Committed = true
  is_committed _ = false

  abbrev pub is_imported : Reply A → Bool
  is_imported Imported = true
  is_imported _ = false

  -- what an answered action, at a place, makes of the course of its session's transaction
  abbrev pub gone_on : ℕ → Action A → Reply A → Track A → Track A
  gone_on place (Run q) reply c = if is_refused reply then c else record c { statements = c.statements ++ (q, reply) ∷ [] }
  gone_on place (Import i) reply c = if is_imported reply then record c { imported = true } else c
  gone_on place Commit reply c = if is_committed reply then record c { owed = false; committed = true; end = place } else record c { owed = false }
  gone_on place Rollback reply c = record c { owed = false }
  gone_on place _ reply c = c

  -- it is the session's, which has still to end it
  abbrev pub is_its : ℕ → Track A → Bool
  is_its session c = c.session == session && c.owed

  -- a session's course of this number that begins at a place
  abbrev pub course_begun : ℕ → ℕ → ℕ → Track A
  course_begun session number place = record { session = session; number = number; begin = place; end = 0; owed = true; committed = false; imported = false; statements = [] }

  -- the first that passes, changed
  abbrev pub at_first : (Track A → Bool) → (Track A → Track A) → List (Track A) → List (Track A)
  at_first test f [] = []
  at_first test f (c ∷ cs) = if test c then f c ∷ cs else c ∷ at_first test f cs

  -- after the BEGIN of a session that has no transaction
  abbrev pub begins : ℕ → ℕ → Action A → List (Track A) → List (Track A)
  begins place session (Begin m) cs = cs ++ course_begun session (length cs + 1) place ∷ []
  begins place session _ cs = cs

  -- after one more record
  abbrev pub with_record : ℕ → Record A → List (Track A) → List (Track A)
  with_record place e cs = if list_any (is_its e.session) cs then at_first (is_its e.session) (gone_on place e.action e.reply) cs else begins place e.session e.action cs

  -- These are the places of each session's latest transaction: where it has still to end one, that one stands there.
  abbrev pub AreLatest : (ℕ → Option ℕ) → List (Track A) → Type 0
  AreLatest place cs = (s i : ℕ) (c : Track A) → slice_get cs i ≡ Some c → is_its s c ≡ true → place s ≡ Some i

  -- after these records, the first of them at the place after this one
  abbrev pub courses_after : ℕ → List (Record A) → List (Track A) → List (Track A)
  courses_after place [] cs = cs
  courses_after place (e ∷ es) cs = courses_after (place + 1) es (with_record (place + 1) e cs)

-- What events make of transactions: a history's records, taken one after the other.
-- Sources: PostgreSQL's manual, "Transaction Isolation" (a snapshot is taken at the beginning, commits are seen whole or not at all) and "SET TRANSACTION" (DEFERRABLE, SNAPSHOT); the SSI paper, its section on safe retry for the choice of the transaction to abort.
use Rattle.std.specs.Prelude.{ℕ, ◌+◌, ◌==◌, Bool, true, false, not, ◌&&◌, if◌then◌else◌, Option, Some, None, List, [], ◌∷◌, ◌++◌, length, map}
use Rattle.std.specs.List.{find}
use Rattle.value.specs.declared.refusal.Mode.{Mode}
use Rattle.value.specs.declared.refusal.Code.{Code}
use Rattle.value.specs.declared.refusal.Code.TheVariants as code
use Rattle.value.specs.declared.refusal.Refusal.{Refusal}
use Rattle.value.specs.declared.refusal.Cause.{Cause}
use Rattle.value.specs.Isolation.{dooms}
use Rattle.statement.specs.declared.statement.Statement.{Statement}
use Rattle.statement.specs.declared.reply.Reply.{Reply}
use Rattle.statement.specs.declared.reply.Reply.TheVariants.{Begun, Committed, Imported, Safe, Wait, Exported, Refused}
use Rattle.statement.specs.Evaluation.{outcome, after}
use Rattle.statement.specs.Footprint.{footprint}
use Rattle.history.specs.declared.event.Action.{Action}
use Rattle.history.specs.declared.event.Action.TheVariants.{Begin, Run, Broken, Poll, Export, Import, Commit, Rollback, Prune}
use Rattle.history.specs.declared.event.Record.{Record}
use Rattle.history.specs.Opening.{Opening, Recorded}
use Rattle.history.specs.Transactions.{Standing, Open, Doomed, Failed, Aborted, Done, Txn, World, Exported_snapshot, commits, tables_at, current, is_open, is_read_write, is_spoilt, exported, node, reads_from}

-- the refusals after which an open transaction goes on
abbrev pub goes_on : Code → Bool
goes_on code.ObjectNotInPrerequisiteState = true
goes_on _ = false

module _ {A : Type 0} where
  -- ---- a transaction's course

  -- a transaction at its BEGIN, with a snapshot of all commits so far
  abbrev pub begun : World A → ℕ → Mode → Txn A
  begun w s m = record {
    session = s;
    number = w.base.transactions + length w.txns + 1;
    mode = m;
    begin = w.place + 1;
    standing = Open;
    end = 0;
    commit = 0;
    snapshot = commits w;
    taken = w.place + 1;
    imported = false;
    known = false;
    asked = false;
    statements = [];
    own = tables_at w (commits w);
    reads = [];
    changes = [];
    marks = [];
  }

  -- the transaction, which is over with this event
  abbrev pub ended : World A → Standing → Txn A → Txn A
  ended w how t = record t { standing = how; end = w.place + 1 }

  -- the transaction, which has got this reply to a statement
  abbrev pub ran : World A → Statement A → Reply A → Txn A → Txn A
  ran w q reply t = record t {
    asked = true;
    statements = t.statements ++ (q, reply) ∷ [];
    own = after w.catalog q t.own;
    reads = t.reads ++ footprint w.catalog q;
    changes = t.changes ++ (outcome w.catalog q t.own).changes;
    marks = t.marks ++ (outcome w.catalog q t.own).marks;
  }

  -- the transaction with another snapshot
  abbrev pub with_snapshot : World A → ℕ → ℕ → Txn A → Txn A
  with_snapshot w n place t = record t { snapshot = n; taken = place; own = tables_at w n }

  -- At a POLL a deferrable transaction takes a new snapshot where its own can't become safe.
  abbrev pub polled : World A → Txn A → Txn A
  polled w t = if not t.known && is_spoilt w.txns t then with_snapshot w (commits w) (w.place + 1) t else t

  -- an importer has its exporter's snapshot, and knows of it what that one knew
  abbrev pub import : Option Exported_snapshot → World A → Txn A → Txn A
  import None w t = t
  import (Some x) w t = record t { snapshot = x.snapshot; taken = x.taken; imported = true; known = x.known; own = tables_at w x.snapshot }

  -- committed; with the next number, if it is read-write
  abbrev pub numbered : World A → Txn A → Txn A
  numbered w t = if is_read_write t.mode then record (ended w Done t) { commit = commits w + 1 } else ended w Done t

  -- refused; it is over, or goes on
  abbrev pub fails : World A → Refusal → Txn A → Txn A
  fails w r t = if goes_on r.code then t else ended w Failed t

  -- ---- what an answered action makes of its session's transaction

  -- while it is open
  abbrev pub moved : World A → Action A → Reply A → Txn A → Txn A
  moved w (Run q) (Refused r) t = fails w r t
  moved w (Run q) reply t = ran w q reply t
  moved w (Broken r) reply t = ended w Failed t
  moved w Poll (Safe s) t = record (polled w t) { known = true }
  moved w Poll Wait t = polled w t
  moved w Export (Exported i) t = record t { asked = true }
  moved w (Import i) Imported t = import (exported w i) w t
  moved w Commit Committed t = numbered w t
  moved w Commit (Refused r) t = ended w Aborted t
  moved w Rollback reply t = ended w Aborted t
  moved w _ _ t = t

  -- once it is doomed: its session learns of that by the next reply that isn't about something else
  abbrev pub told : Action A → Standing → Standing
  told (Begin m) standing = standing
  told Prune standing = standing
  told Commit standing = Aborted
  told Rollback standing = Aborted
  told _ standing = Failed

  -- once it has failed
  abbrev pub settled : Action A → Standing → Standing
  settled Commit standing = Aborted
  settled Rollback standing = Aborted
  settled _ standing = standing

  -- by how it stands
  abbrev pub turned_from : Standing → World A → Action A → Reply A → Txn A → Txn A
  turned_from Open w a r t = moved w a r t
  turned_from (Doomed c) w a r t = record t { standing = told a t.standing }
  turned_from Failed w a r t = record t { standing = settled a t.standing }
  turned_from _ w a r t = t

  -- what the event makes of its session's transaction
  abbrev pub turned : World A → Action A → Reply A → Txn A → Txn A
  turned w a r t = turned_from t.standing w a r t

  -- ---- what it makes of the others

  -- the causes by which the event dooms others: a read-write transaction's commit does
  abbrev pub causes : World A → Action A → Reply A → Txn A → List Cause
  causes w Commit Committed t = if is_read_write t.mode then dooms node reads_from w.txns t else []
  causes w _ _ t = []

  -- over at this place for this cause, if there is one
  abbrev pub doomed_with : ℕ → Option Cause → Txn A → Txn A
  doomed_with place None t = t
  doomed_with place (Some c) t = record t { standing = Doomed c; end = place }

  -- an open transaction in the middle of one of these causes is over at this place
  abbrev pub doomed_by : ℕ → List Cause → Txn A → Txn A
  doomed_by place causes t = doomed_with place (if is_open t.standing then find (λ c. c.b.0 == t.number) causes else None) t

  -- x in the place of the transaction that has its number
  abbrev pub replaced : Txn A → List (Txn A) → List (Txn A)
  replaced x ts = map (λ t. if t.number == x.number then x else t) ts

  -- all transactions: the session's turned, and those doomed that its commit dooms
  abbrev pub txns_after : World A → Action A → Reply A → Txn A → List (Txn A)
  txns_after w a r t = map (doomed_by (w.place + 1) (causes w a r t)) (replaced (turned w a r t) w.txns)

  -- ---- an event

  -- the read-write transactions that have committed, in the order of their commits
  abbrev pub log_after : World A → Action A → Reply A → Txn A → List (Txn A)
  log_after w Commit Committed t = if is_read_write t.mode then w.log ++ numbered w t ∷ [] else w.log
  log_after w _ _ t = w.log

  -- the number of the next identifier
  abbrev pub next_identifier : World A → ℕ
  next_identifier w = w.base.identifiers + length w.exports + 1

  -- the snapshots that have been exported, each with what its exporter knew of it
  abbrev pub exports_after : World A → Action A → Reply A → Txn A → List Exported_snapshot
  exports_after w Export (Exported i) t = w.exports ++ record { id = i; exporter = t.number; snapshot = t.snapshot; taken = t.taken; known = t.known } ∷ []
  exports_after w _ _ t = w.exports

  -- an event of a session that has no transaction
  abbrev pub without_transaction : World A → ℕ → Action A → Reply A → World A
  without_transaction w s (Begin m) Begun = record w { txns = w.txns ++ begun w s m ∷ []; place = w.place + 1 }
  without_transaction w s _ _ = record w { place = w.place + 1 }

  -- the world after an event of a session with this transaction, or with none
  abbrev pub followed : World A → Record A → Option (Txn A) → World A
  followed w e None = without_transaction w e.session e.action e.reply
  followed w e (Some t) = record w {
    log = log_after w e.action e.reply t;
    txns = txns_after w e.action e.reply t;
    exports = exports_after w e.action e.reply t;
    place = w.place + 1;
  }

  -- what a world is after one more event
  abbrev pub follows : World A → Record A → World A
  follows w e = followed w e (current w e.session)

  -- ---- a history

  -- the world at an opening: no transaction has begun
  abbrev pub start : Opening A → World A
  start o = record { catalog = o.catalog; opening = o.tables; base = o.base; log = []; txns = []; exports = []; place = o.base.events }

  -- a world after these events, the first first
  abbrev pub run : World A → List (Record A) → World A
  run w [] = w
  run w (e ∷ es) = run (follows w e) es

  -- the world after the events since an opening
  abbrev pub world_of : Opening A → List (Record A) → World A
  world_of o es = run (start o) es

  -- the world after a history
  abbrev pub world : Recorded A → World A
  world h = world_of h.opening h.records

-- The reply to an action after a history, and the histories in which each reply is that.
-- Sources: PostgreSQL's manual, "Transaction Isolation", "BEGIN", "COMMIT", "ROLLBACK", "SET TRANSACTION", and "PostgreSQL Error Codes" for the refusals; the SSI paper (Ports and Grittner, VLDB 2012), its sections on dangerous structures and on safe snapshots.
use Rattle.std.specs.Prelude.{◌≡◌, ◌≢◌, ℕ, ◌+◌, nat_lt, nat_le, ◌^◌, ◌==◌, Bool, true, false, not, ◌&&◌, ◌||◌, if◌then◌else◌, Option, Some, None, is_some, Result, Ok, Err, List, [], ◌∷◌}
use Rattle.std.specs.List.{list_any}
use Rattle.value.specs.declared.refusal.Code.{Code}
use Rattle.value.specs.declared.refusal.Code.TheVariants as code
use Rattle.value.specs.declared.refusal.Cause.{Cause}
use Rattle.value.specs.declared.refusal.Refusal.{Refusal}
use Rattle.value.specs.declared.refusal.Place.TheVariants as place
use Rattle.value.specs.Isolation.{first_cause}
use Rattle.value.specs.Refusals.{of_code}
use Rattle.schema.specs.declared.changes.Change.{Change}
use Rattle.schema.specs.declared.tables.Tables.{Tables}
use Rattle.schema.specs.Definition.{Catalog}
use Rattle.schema.specs.Plain.{same, is_sound}
use Rattle.statement.specs.declared.statement.Statement.{Statement}
use Rattle.statement.specs.declared.outcome.Outcome.{Outcome}
use Rattle.statement.specs.declared.reply.Reply.{Reply}
use Rattle.statement.specs.declared.reply.Reply.TheVariants.{Begun, Committed, RolledBack, Pruned, Imported, Safe, Wait, Exported, Refused}
use Rattle.statement.specs.Evaluation.{outcome, writes}
use Rattle.statement.specs.Fits.{Fits}
use Rattle.history.specs.declared.event.Action.{Action}
use Rattle.history.specs.declared.event.Action.TheVariants.{Begin, Run, Broken, Poll, Export, Import, Commit, Rollback, Prune}
use Rattle.history.specs.declared.event.Record.{Record}
use Rattle.history.specs.Opening.{Opening, Recorded}
use Rattle.history.specs.Transactions.{Standing, Open, Doomed, Failed, Txn, World, node, edge, is_open, is_read_write, is_read_only, is_deferrable, is_quiet, is_pending, must_wait, current, exported, tables_at}
use Rattle.history.specs.Events.{polled, numbered, replaced, next_identifier, follows, start, world_of}
use Rattle.history.specs.Checkpoint.{opening_after}

-- refused as the middle, or for the sake, of a dangerous structure
abbrev pub of_cause : Cause → Refusal
of_cause c = record { code = code.SerializationFailure; place = place.Cause c }

module _ {A : Type 0} where
  -- the refusal with this code alone
  abbrev pub refuses : Code → Reply A
  refuses c = Refused (of_code c)

  -- ---- a session without a transaction, and those whose transaction is over

  -- A session without a transaction can begin one and prune; all else needs a transaction (25P01).
  abbrev pub idle : Action A → Reply A
  idle (Begin m) = Begun
  idle Prune = Pruned
  idle _ = refuses code.NoActiveSqlTransaction

  -- Once a statement was refused, the transaction can only be rolled back, which COMMIT does too; all else but PRUNE is refused (25P02).
  abbrev pub failed : Action A → Reply A
  failed Commit = RolledBack
  failed Rollback = RolledBack
  failed Prune = Pruned
  failed _ = refuses code.InFailedSqlTransaction

  -- Another's commit has ended the transaction: the next reply that isn't to BEGIN, PRUNE or ROLLBACK says why (40001).
  abbrev pub doomed : Cause → Action A → Reply A
  doomed c (Begin m) = refuses code.ActiveSqlTransaction
  doomed c Rollback = RolledBack
  doomed c Prune = Pruned
  doomed c _ = Refused (of_cause c)

  -- ---- a statement in an open transaction

  -- a refusal, of any code
  abbrev pub is_refused : Reply A → Bool
  is_refused (Refused r) = true
  is_refused _ = false

  -- u hasn't ended, or committed after t's snapshot
  abbrev pub is_unseen : Txn A → Txn A → Bool
  is_unseen t u = is_open u.standing || nat_lt t.snapshot u.commit

  -- u has inserted, updated or deleted the key of the change
  abbrev pub has_written : Txn A → Change A → Bool
  has_written u x = list_any (λ y. x.table == y.table && same x.key y.key) u.changes

  -- another transaction, of which t sees nothing, has written the key
  abbrev pub is_taken : Txn A → Txn A → Change A → Bool
  is_taken t u x = not (u.number == t.number) && is_unseen t u && has_written u x

  -- t would write a key that is taken
  abbrev pub meets_another : World A → Txn A → List (Change A) → Bool
  meets_another w t xs = list_any (λ x. list_any (λ u. is_taken t u x) w.txns) xs

  -- refused because of a row that another has written: the first updater wins (40001; the manual, "Repeatable Read Isolation Level")
  abbrev pub refuses_row : Reply A
  refuses_row = Refused (record { code = code.SerializationFailure; place = place.Row })

  -- the reply of a statement that is evaluated: its fault, the refusal of a key that is taken, or what it answers
  abbrev pub evaluated : World A → Txn A → Outcome A → Reply A
  evaluated w t o = if is_refused o.reply then o.reply else if meets_another w t o.changes then refuses_row else o.reply

  -- A statement is refused while its snapshot has still to become safe (55000), and where it would write in a transaction that isn't read-write (25006).
  abbrev pub run_reply : World A → Txn A → Statement A → Reply A
  run_reply w t q =
      if must_wait t then refuses code.ObjectNotInPrerequisiteState
      else if writes q && not (is_read_write t.mode) then refuses code.ReadOnlySqlTransaction
      else evaluated w t (outcome w.catalog q t.own)

  -- ---- snapshots of an open transaction

  -- The reply to a POLL says whether a deferrable transaction's snapshot is safe, with a new one where the old one can't become so; any other transaction has nothing to poll for (55000).
  abbrev pub poll_reply : World A → Txn A → Reply A
  poll_reply w t =
      if not (is_deferrable t.mode) then refuses code.ObjectNotInPrerequisiteState
      else if t.known then Safe t.snapshot
      else if is_pending w.txns (polled w t) then Wait
      else Safe (polled w t).snapshot

  -- A snapshot gets the next identifier (the manual, "Snapshot Synchronization Functions"), but not while it waits to be safe (55000).
  abbrev pub export_reply : World A → Txn A → Reply A
  export_reply w t = if must_wait t then refuses code.ObjectNotInPrerequisiteState else Exported (next_identifier w)

  -- A READ ONLY transaction takes the snapshot of an identifier that lives, before its first statement (the manual, "SET TRANSACTION").
  abbrev pub import_reply : World A → Txn A → ℕ → Reply A
  import_reply w t i =
      if not (is_read_only t.mode) then refuses code.ObjectNotInPrerequisiteState
      else if t.asked then refuses code.ActiveSqlTransaction
      else if is_some (exported w i) then Imported
      else refuses code.ObjectNotInPrerequisiteState

  -- ---- its commit

  -- all transactions, were t to commit
  abbrev pub committing : World A → Txn A → List (Txn A)
  committing w t = replaced (numbered w t) w.txns

  -- the dangerous structure that t's commit would make
  abbrev pub cause_of : World A → Txn A → Option Cause
  cause_of w t = first_cause node edge (committing w t)

  -- committed, unless that would make a dangerous structure
  abbrev pub commit_reply : Option Cause → Reply A
  commit_reply None = Committed
  commit_reply (Some c) = Refused (of_cause c)

  -- ---- any action

  -- the reply to any action in an open transaction
  abbrev pub open_reply : World A → Txn A → Action A → Reply A
  open_reply w t (Begin m) = refuses code.ActiveSqlTransaction
  open_reply w t (Run q) = run_reply w t q
  open_reply w t (Broken r) = Refused r
  open_reply w t Poll = poll_reply w t
  open_reply w t Export = export_reply w t
  open_reply w t (Import i) = import_reply w t i
  open_reply w t Commit = commit_reply (cause_of w t)
  open_reply w t Rollback = RolledBack
  open_reply w t Prune = Pruned

  -- of a session whose transaction stands so
  abbrev pub reply_from : Standing → World A → Txn A → Action A → Reply A
  reply_from Open w t a = open_reply w t a
  reply_from (Doomed c) w t a = doomed c a
  reply_from Failed w t a = failed a
  reply_from _ w t a = idle a

  -- the reply to a session with this transaction, or with none
  abbrev pub reply_of : World A → Option (Txn A) → Action A → Reply A
  reply_of w None a = idle a
  reply_of w (Some t) a = reply_from t.standing w t a

  -- the reply that is due to a session's action in this world
  abbrev pub reply_in : World A → ℕ → Action A → Reply A
  reply_in w s a = reply_of w (current w s) a

  -- The reply to the session's action, after the events since the opening.
  unfoldable pub answer : Opening A → List (Record A) → ℕ → Action A → Reply A
  answer o es s a = reply_in (world_of o es) s a

  -- ---- legal histories

  -- What may be asked of the core: a statement that is run fits the catalog, and no text was refused when out of memory.
  abbrev pub Allowed : Catalog → Action A → Type 0
  Allowed c (Run q) = Fits c q
  Allowed c (Broken r) = r.code ≢ code.OutOfMemory
  Allowed c _ = Unit {0}

  -- Each reply is the one that is due after the events before it.
  abbrev pub IsAnswered : World A → List (Record A) → Type 0
  IsAnswered w [] = Unit {0}
  IsAnswered w (e ∷ es) = Allowed w.catalog e.action × (e.reply ≡ reply_in w e.session e.action) × IsAnswered (follows w e) es

  -- Events that a core can record since this opening: it opened with sound tables, and each reply is the answer.
  unfoldable pub Legal : Opening A → List (Record A) → Type 0
  Legal o es = (is_sound o.catalog o.tables ≡ true) × IsAnswered (start o) es

  -- a legal history
  abbrev pub IsLegal : Recorded A → Type 0
  IsLegal h = Legal h.opening h.records

  -- the actions of one session with their replies
  abbrev pub of_session : ℕ → List (Record A) → List (Action A × Reply A)
  of_session s [] = []
  of_session s (e ∷ es) = if e.session == s then (e.action, e.reply) ∷ of_session s es else of_session s es

  -- ---- reading that is no event

  -- the tables of the session's snapshot, where it is known to be safe
  abbrev pub view_from : Standing → World A → Txn A → Result (Tables A) Refusal
  view_from Failed w t = Err (of_code code.InFailedSqlTransaction)
  view_from _ w t = if t.known then Ok (tables_at w t.snapshot) else Err (of_code code.ObjectNotInPrerequisiteState)

  -- the tables that a session's view shows, where the session has this transaction, or none
  abbrev pub view_of : World A → Option (Txn A) → Result (Tables A) Refusal
  view_of w None = Err (of_code code.NoActiveSqlTransaction)
  view_of w (Some t) = view_from t.standing w t

  -- what a session's view shows after these events, or why it gets none
  abbrev pub view_answer : Opening A → List (Record A) → ℕ → Result (Tables A) Refusal
  view_answer o es s = view_of (world_of o es) (current (world_of o es) s)

  -- the tables that the session's transaction sees, its own changes too, where it may read
  abbrev pub reader_from : Standing → Txn A → Result (Tables A) Refusal
  reader_from (Doomed c) t = Err (of_cause c)
  reader_from Failed t = Err (of_code code.InFailedSqlTransaction)
  reader_from _ t = if must_wait t then Err (of_code code.ObjectNotInPrerequisiteState) else Ok t.own

  -- the tables that a session's SELECTs read, where the session has this transaction, or none
  abbrev pub reader_of : Option (Txn A) → Result (Tables A) Refusal
  reader_of None = Err (of_code code.NoActiveSqlTransaction)
  reader_of (Some t) = reader_from t.standing t

  -- what a session's SELECTs are evaluated over after these events, or why it has no reader
  abbrev pub reader_answer : Opening A → List (Record A) → ℕ → Result (Tables A) Refusal
  reader_answer o es s = reader_of (current (world_of o es) s)

  -- ---- checkpoints

  -- Refused while a session has a transaction, or where there would be no events, or more than can be counted.
  abbrev pub checkpoint_from : World A → ℕ → Result (Opening A) Refusal
  checkpoint_from w most =
      if not (is_quiet w) then Err (of_code code.ObjectNotInPrerequisiteState)
      else if most == 0 || nat_le (2 ^ 64) (w.place + most) then Err (of_code code.ProgramLimitExceeded)
      else Ok (opening_after w)

  -- the opening from which a history goes on
  abbrev pub checkpoint_answer : Opening A → List (Record A) → ℕ → Result (Opening A) Refusal
  checkpoint_answer o es most = checkpoint_from (world_of o es) most

-- The transactions of a history: their numbers, snapshots, statements, reads and writes, how each stands, and how they conflict.
-- Ports and Grittner, "Serializable Snapshot Isolation in PostgreSQL" (VLDB 2012), sections 2 to 4.
use Rattle.std.specs.Prelude.{ℕ, ◌+◌, ◌-◌, nat_lt, nat_le, ◌==◌, Bool, true, false, not, ◌&&◌, ◌||◌, Option, List, [], ◌∷◌, length, take}
use Rattle.std.specs.List.{find, list_any, list_all}
use Rattle.value.specs.declared.refusal.Mode.{Mode}
use Rattle.value.specs.declared.refusal.Mode.TheVariants.{ReadWrite, ReadOnly, Deferrable}
use Rattle.value.specs.declared.refusal.Cause.{Cause}
use Rattle.value.specs.Isolation.{Node, edge_of}
use Rattle.schema.specs.declared.changes.Change.{Change}
use Rattle.schema.specs.Definition.{Catalog}
use Rattle.schema.specs.declared.tables.Tables.{Tables}
use Rattle.schema.specs.Plain.{put_all}
use Rattle.statement.specs.declared.statement.Statement.{Statement}
use Rattle.statement.specs.declared.reading.Reading.{Reading}
use Rattle.statement.specs.declared.reply.Reply.{Reply}
use Rattle.statement.specs.declared.outcome.Mark.{Mark}
use Rattle.statement.specs.Cover.{covers, covers_value}
use Rattle.history.specs.declared.base.Base.{Base}

-- How a transaction stands.
pub data Standing : Type 0 where
  Open : Standing
  Doomed : Cause → Standing  -- over, since it was the middle of a structure when another committed; its session doesn't know yet
  Failed : Standing  -- over, but its session still owes a COMMIT or a ROLLBACK
  Aborted : Standing  -- rolled back, or refused at its COMMIT
  Done : Standing  -- committed

abbrev pub is_open : Standing → Bool
is_open Open = true
is_open _ = false

abbrev pub is_done : Standing → Bool
is_done Done = true
is_done _ = false

-- its session has still to end it
abbrev pub is_owed : Standing → Bool
is_owed Open = true
is_owed (Doomed c) = true
is_owed Failed = true
is_owed _ = false

abbrev pub is_read_write : Mode → Bool
is_read_write ReadWrite = true
is_read_write _ = false

abbrev pub is_read_only : Mode → Bool
is_read_only ReadOnly = true
is_read_only _ = false

abbrev pub is_deferrable : Mode → Bool
is_deferrable Deferrable = true
is_deferrable _ = false

pub record Txn (A : Type 0) : Type 0 where
  pub session : ℕ
  pub number : ℕ  -- in the order of the BEGINs, from 1 above the base
  pub mode : Mode
  pub begin : ℕ  -- the place of its BEGIN among the events, from 1 above the base
  pub standing : Standing
  pub end : ℕ  -- the place at which it was over; 0 while it is open
  pub commit : ℕ  -- the number of its commit, from 1 above the base; 0 where it has none
  pub snapshot : ℕ  -- it sees the commits up to this number
  pub taken : ℕ  -- the place at which its snapshot was taken
  pub imported : Bool
  pub known : Bool  -- its snapshot is known to be safe
  pub asked : Bool  -- a statement or an EXPORT was answered without a refusal
  pub statements : List (Statement A × Reply A)  -- those answered without a refusal
  pub own : Tables A  -- what its statements, done from its snapshot, have come to
  pub reads : List (Reading A)  -- what its statements read
  pub changes : List (Change A)  -- what its statements wrote
  pub marks : List (Mark A)  -- the references of the rows that they wrote, before and after

-- An identifier of a snapshot: the transaction that exported it, and whether its snapshot was known to be safe then.
pub record Exported_snapshot : Type 0 where
  pub id : ℕ
  pub exporter : ℕ
  pub snapshot : ℕ
  pub taken : ℕ
  pub known : Bool

-- The world after a history.
pub record World (A : Type 0) : Type 0 where
  pub catalog : Catalog
  pub opening : Tables A
  pub base : Base
  pub log : List (Txn A)  -- the commits of read-write transactions, by number
  pub txns : List (Txn A)  -- all transactions, by number
  pub exports : List Exported_snapshot  -- by identifier
  pub place : ℕ  -- how many events there were, those before the base too

module _ {A : Type 0} where
  -- ---- tables

  -- the tables with the changes of these put in, in that order
  abbrev pub with_all : List (Txn A) → Tables A → Tables A
  with_all [] X = X
  with_all (t ∷ ts) X = with_all ts (put_all t.changes X)

  -- the number of the last commit
  abbrev pub commits : World A → ℕ
  commits w = w.base.commits + length w.log

  -- the opening tables with the changes of the commits above the base, up to commit n, put in
  abbrev pub tables_at : World A → ℕ → Tables A
  tables_at w n = with_all (take (n - w.base.commits) w.log) w.opening

  -- ---- sessions

  -- the session's transaction, which it has still to end
  abbrev pub is_of : ℕ → Txn A → Bool
  is_of s t = t.session == s && is_owed t.standing

  abbrev pub current : World A → ℕ → Option (Txn A)
  current w s = find (is_of s) w.txns

  -- a deferrable transaction whose snapshot isn't known to be safe yet
  abbrev pub must_wait : Txn A → Bool
  must_wait t = is_deferrable t.mode && not t.known

  -- no session has a transaction
  abbrev pub is_quiet : World A → Bool
  is_quiet w = list_all (λ t. not (is_owed t.standing)) w.txns

  -- ---- conflicts

  -- what isolation knows of a transaction
  abbrev pub node : Txn A → Node
  node t = record { number = t.number; read_write = is_read_write t.mode; snapshot = t.snapshot; active = is_open t.standing; committed = is_done t.standing; commit = t.commit; place = t.end }

  -- u wrote a key that t's cover has
  abbrev pub reads_key_of : Txn A → Txn A → Bool
  reads_key_of t u = list_any (λ x. covers t.reads x.table x.key) u.changes

  -- u wrote a row that held, or holds, a reference that t's cover has
  abbrev pub reads_mark_of : Txn A → Txn A → Bool
  reads_mark_of t u = list_any (λ m. covers_value t.reads m.table m.column m.key) u.marks

  -- u wrote what t's cover has
  abbrev pub reads_from : Txn A → Txn A → Bool
  reads_from t u = reads_key_of t u || reads_mark_of t u

  -- t -> u: u wrote what t's cover has, and committed after t's snapshot
  abbrev pub edge : Txn A → Txn A → Bool
  edge = edge_of node reads_from

  -- ---- deferrable transactions

  -- u is read-write, and was open when t's snapshot was taken
  abbrev pub was_active : Txn A → Txn A → Bool
  was_active t u = is_read_write u.mode && nat_lt u.begin t.taken && (is_open u.standing || nat_lt t.taken u.end)

  -- u committed with an edge to a commit that t's snapshot shows
  abbrev pub spoils : List (Txn A) → Txn A → Txn A → Bool
  spoils ts t u = is_done u.standing && list_any (λ v. edge u v && nat_le v.commit t.snapshot) ts

  -- t's snapshot can't become safe
  abbrev pub is_spoilt : List (Txn A) → Txn A → Bool
  is_spoilt ts t = list_any (λ u. was_active t u && spoils ts t u) ts

  -- one that was active at t's snapshot is open still
  abbrev pub is_pending : List (Txn A) → Txn A → Bool
  is_pending ts t = list_any (λ u. was_active t u && is_open u.standing) ts

  -- an identifier lives while its exporter is open
  abbrev pub is_living : List (Txn A) → Exported_snapshot → Bool
  is_living ts x = list_any (λ t. t.number == x.exporter && is_open t.standing) ts

  -- the snapshot of a living identifier
  abbrev pub exported : World A → ℕ → Option Exported_snapshot
  exported w i = find (λ x. x.id == i && is_living w.txns x) w.exports

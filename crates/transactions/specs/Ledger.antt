-- What is kept of a world: some of its transactions, without statements and tables of their own, some of its identifiers, and all numbers.
use Rattle.std.specs.Prelude.{ℕ, zero, suc, ◌+◌, ◌≤◌, ◌<◌, ◌^◌, nat_lt, Bool, false, ◌&&◌, ◌||◌, if◌then◌else◌, Option, Some, None, List, [], ◌∷◌, ◌++◌, length, map, slice_index_or}
use Rattle.std.specs.List.{list_any}
use Rattle.value.specs.declared.refusal.Mode.TheVariants.{ReadWrite}
use Rattle.schema.specs.declared.changes.Change.{Change}
use Rattle.schema.specs.declared.tables.Tables.{Tables}
use Rattle.schema.specs.Definition.{Catalog}
use Rattle.schema.specs.Plain.{put_all}
use Rattle.statement.specs.declared.reply.Reply.{Reply}
use Rattle.statement.specs.declared.reply.Reply.TheVariants.{Begun, Committed}
use Rattle.history.specs.declared.base.Base.{Base}
use Rattle.history.specs.declared.event.Action.{Action}
use Rattle.history.specs.declared.event.Action.TheVariants.{Begin, Run, Commit}
use Rattle.history.specs.Transactions.{Done, Txn, World, Exported_snapshot, is_open, is_read_write, current}
use Rattle.history.specs.Events.{begun, causes, doomed_by, exports_after, replaced, turned}

-- A world without its catalog, its tables and its log. The base has the numbers that aren't counted by the lists: all commits, and of the transactions
-- and the identifiers those that aren't kept any more.
pub record Ledger (A : Type 0) : Type 0 where
  pub base : Base
  pub txns : List (Txn A)
  pub exports : List Exported_snapshot
  pub place : ℕ

module _ {A : Type 0} where
  -- ---- what is kept

  -- a transaction without its statements and its own tables
  abbrev pub kept : Txn A → Txn A
  kept t = record t { statements = []; own = [] }

  -- the world of what is kept, over these tables
  abbrev pub world_on : Catalog → Tables A → Ledger A → World A
  world_on c X l = record { catalog = c; opening = X; base = l.base; log = []; txns = l.txns; exports = l.exports; place = l.place }

  -- the session's transaction as it is kept, which it has still to end
  abbrev pub kept_current : Catalog → Tables A → Ledger A → ℕ → Option (Txn A)
  kept_current c X l s = current (world_on c X l) s

  -- ---- an event

  -- a transaction with its own tables again: its changes put into the tables at its snapshot, of these tables by commit numbers
  abbrev pub with_own : (ℕ → Tables A) → Txn A → Txn A
  with_own tables t = record t { own = put_all t.changes (tables t.snapshot) }

  -- its own tables are asked for by a statement alone
  abbrev pub ready : (ℕ → Tables A) → Action A → Txn A → Txn A
  ready tables (Run q) t = with_own tables t
  ready tables _ t = t

  abbrev pub ready_for : (ℕ → Tables A) → Action A → Option (Txn A) → Option (Txn A)
  ready_for tables a None = None
  ready_for tables a (Some t) = Some (ready tables a t)

  -- the transactions after an event of a session that has none
  abbrev pub joined : World A → ℕ → Action A → Reply A → List (Txn A)
  joined w s (Begin m) Begun = w.txns ++ kept (begun w s m) ∷ []
  joined w s _ _ = w.txns

  -- the numbers after an event of t's session: a read-write transaction's commit uses up a commit number
  abbrev pub counted : World A → Action A → Reply A → Txn A → Base
  counted w Commit Committed t = if is_read_write t.mode then record w.base { commits = w.base.commits + 1 } else w.base
  counted w _ _ t = w.base

  -- what an event of the session that has this transaction commits: nothing, unless it is the commit of a read-write one
  abbrev pub committed_by : Action A → Reply A → Option (Txn A) → List (Change A)
  committed_by Commit Committed (Some t) = if is_read_write t.mode then t.changes else []
  committed_by _ _ _ = []

  -- the transactions after it, of which a commit may doom others
  abbrev pub turned_all : World A → Action A → Reply A → Txn A → List (Txn A)
  turned_all w Commit Committed t = map (doomed_by (w.place + 1) (causes w Commit Committed t)) (replaced (kept (turned w Commit Committed t)) w.txns)
  turned_all w a r t = replaced (kept (turned w a r t)) w.txns

  -- what is kept after an event of the session whose transaction is t
  abbrev pub after_owned : World A → Action A → Reply A → Txn A → Ledger A
  after_owned w a r t = record { base = counted w a r t; txns = turned_all w a r t; exports = exports_after w a r t; place = w.place + 1 }

  -- what is kept after an event of session s, which has this transaction, or none
  abbrev pub kept_after : World A → ℕ → Action A → Reply A → Option (Txn A) → Ledger A
  kept_after w s a r None = record { base = w.base; txns = joined w s a r; exports = w.exports; place = w.place + 1 }
  kept_after w s a r (Some t) = after_owned w a r t

  -- ---- what the ledger keeps true

  -- the numbers of these transactions rise, from above n, to m at most
  abbrev pub AreNumbered : ℕ → ℕ → List (Txn A) → Type 0
  AreNumbered n m [] = Unit {0}
  AreNumbered n m (t ∷ ts) = (n < t.number) × (t.number ≤ m) × AreNumbered t.number m ts

  -- Transactions are in the order of their numbers, and none has a number that isn't used up; and each event used up at most one number of each kind.
  pub record IsCounted (l : Ledger A) : Type 0 where
    pub numbered : AreNumbered 0 (l.base.transactions + length l.txns) l.txns
    pub transactions : l.base.transactions + length l.txns ≤ l.place
    pub commits : l.base.commits ≤ l.place
    pub identifiers : l.base.identifiers + length l.exports ≤ l.place
    pub fits : l.place < 2 ^ 64

  -- ---- its transactions by their places

  -- what is read where there is no transaction
  abbrev pub nothing : Txn A
  nothing = record {
    session = 0;
    number = 0;
    mode = ReadWrite;
    begin = 0;
    standing = Done;
    end = 0;
    commit = 0;
    snapshot = 0;
    taken = 0;
    imported = false;
    known = false;
    asked = false;
    statements = [];
    own = [];
    reads = [];
    changes = [];
    marks = [];
  }

  -- the transaction at a place, counted from 0
  abbrev pub txn_at : List (Txn A) → ℕ → Txn A
  txn_at ts n = slice_index_or ts n nothing

  -- the transactions with that at a place, counted from 0, turned
  abbrev pub turned_at : ℕ → (Txn A → Txn A) → List (Txn A) → List (Txn A)
  turned_at n f [] = []
  turned_at zero f (t ∷ ts) = f t ∷ ts
  turned_at (suc n) f (t ∷ ts) = t ∷ turned_at n f ts

  -- u is read-write, was active at this place of the events, and is open still
  abbrev pub is_awaited : ℕ → Txn A → Bool
  is_awaited taken u = is_read_write u.mode && nat_lt u.begin taken && (is_open u.standing || nat_lt taken u.end) && is_open u.standing

  -- there is such a one
  abbrev pub is_pending_at : List (Txn A) → ℕ → Bool
  is_pending_at ts taken = list_any (is_awaited taken) ts

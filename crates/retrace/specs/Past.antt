-- What the records of a history tell of all its transactions.
use Rattle.std.specs.Prelude.{ℕ, zero, suc, ◌+◌, ◌==◌, false, if◌then◌else◌, Option, Some, None, List, [], ◌∷◌, ◌++◌, drop, length, position}
use Rattle.std.specs.List.{find}
use Rattle.std.specs.Option.{option_map_or}
use Rattle.schema.specs.Definition.{Catalog}
use Rattle.schema.specs.declared.tables.Tables.{Tables}
use Rattle.schema.specs.Plain.{put_all}
use Rattle.statement.specs.declared.reply.Reply.{Reply}
use Rattle.statement.specs.declared.reply.Reply.TheVariants.{Exported}
use Rattle.history.specs.declared.event.Action.{Action}
use Rattle.history.specs.declared.event.Action.TheVariants.{Begin, Import, Export}
use Rattle.history.specs.declared.event.Record.{Record}
use Rattle.history.specs.Opening.{Opening}
use Rattle.retrace.specs.declared.past.Lent.{Lent}
use Rattle.retrace.specs.declared.run.When.{When}
use Rattle.retrace.specs.Runs.{Going, begun, is_its, turned}
use Rattle.retrace.specs.Dooms.{all_doomed, causes_of, installs}

-- How many records were followed, the tables of all commits so far, the number of these, the snapshots that have been exported, and the transactions by number.
pub record Bygone (A : Type 0) : Type 0 where
  pub place : ℕ
  pub tables : Tables A
  pub commits : ℕ
  pub lent : List Lent
  pub runs : List (Going A)

-- the snapshot of an identifier; 0 where there is none
abbrev pub snapshot_of : ℕ → List Lent → ℕ
snapshot_of i lent = option_map_or (λ (x : Lent). x.snapshot) (find (λ (x : Lent). x.id == i) lent) 0

module _ {A : Type 0} where
  -- the snapshot that an action asks for
  abbrev pub asked_for : Action A → List Lent → ℕ
  asked_for (Import i) lent = snapshot_of i lent
  asked_for _ lent = 0

  -- what is known at an event at a place, above a base of so many commits, behind so many commits and these snapshots
  abbrev pub when : ℕ → ℕ → Action A → ℕ → List Lent → When
  when base place a commits lent = record { place = place; base = base; commits = commits; lent = asked_for a lent }

  -- ---- an event of a session that has no transaction

  abbrev pub joined : ℕ → Action A → When → Bygone A → Bygone A
  joined s (Begin m) w p = record p { runs = p.runs ++ begun s m (length p.runs + 1) w p.tables ∷ [] }
  joined s _ w p = p

  -- ---- of one that has

  abbrev pub tables_after : Action A → Reply A → Going A → Tables A → Tables A
  tables_after a r g X = if installs a r g then put_all g.trace.changes X else X

  abbrev pub commits_after : Action A → Reply A → Going A → ℕ → ℕ
  commits_after a r g n = if installs a r g then n + 1 else n

  abbrev pub lent_after : Action A → Reply A → Going A → List Lent → List Lent
  lent_after Export (Exported i) g lent = lent ++ record { id = i; snapshot = g.trace.snapshot } ∷ []
  lent_after _ _ g lent = lent

  -- the transaction at a place of the list turned
  abbrev pub turned_at : ℕ → (Going A → Going A) → List (Going A) → List (Going A)
  turned_at n f [] = []
  turned_at zero f (g ∷ gs) = f g ∷ gs
  turned_at (suc n) f (g ∷ gs) = g ∷ turned_at n f gs

  -- what is read where there is no transaction
  abbrev pub nobody : Going A
  nobody = record { trace = record { session = 0; number = 0; read_write = false; begin = 0; snapshot = 0; commit = 0; reads = []; changes = []; marks = []; moments = [] }; refused = []; own = None; owed = false; active = false }

  abbrev pub at_place : ℕ → List (Going A) → Going A
  at_place n [] = nobody
  at_place zero (g ∷ gs) = g
  at_place (suc n) (g ∷ gs) = at_place n gs

  -- all transactions, behind an event of the one at a place, which may doom others
  abbrev pub all_turned : Catalog → When → Record A → ℕ → List (Going A) → List (Going A)
  all_turned c w e i gs = all_doomed (causes_of e.action e.reply gs (at_place i gs)) (turned_at i (turned c w e.action e.reply) gs)

  abbrev pub owned : Catalog → When → Record A → Going A → ℕ → Bygone A → Bygone A
  owned c w e g i p = record {
    place = p.place;
    tables = tables_after e.action e.reply g p.tables;
    commits = commits_after e.action e.reply g p.commits;
    lent = lent_after e.action e.reply g p.lent;
    runs = all_turned c w e i p.runs;
  }

  abbrev pub followed_by : Catalog → When → Record A → Option ℕ → Bygone A → Bygone A
  followed_by c w e None p = joined e.session e.action w p
  followed_by c w e (Some i) p = owned c w e (at_place i p.runs) i p

  -- after one more record, above a base of so many commits
  abbrev pub followed : Catalog → ℕ → Record A → Bygone A → Bygone A
  followed c base e p = followed_by c (when base (p.place + 1) e.action p.commits p.lent) e (position (is_its e.session) p.runs) (record p { place = p.place + 1 })

  -- after these records
  abbrev pub after_all : Catalog → ℕ → List (Record A) → Bygone A → Bygone A
  after_all c base [] p = p
  after_all c base (e ∷ es) p = after_all c base es (followed c base e p)

  -- nothing has happened since an opening
  abbrev pub unbegun : Opening A → Bygone A
  unbegun o = record { place = 0; tables = o.tables; commits = 0; lent = []; runs = [] }

  -- after those of an opening's first records that weren't followed yet
  abbrev pub followed_to : Opening A → List (Record A) → Bygone A → Bygone A
  followed_to o es p = after_all o.catalog o.base.commits (drop p.place es) p

  -- what the records since an opening tell of its transactions
  abbrev pub retraced : Opening A → List (Record A) → List (Going A)
  retraced o es = (after_all o.catalog o.base.commits es (unbegun o)).runs

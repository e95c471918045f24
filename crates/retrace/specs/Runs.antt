-- What the records of a history tell of one transaction. Transactions, commits and places are counted from 1 above the base.
use Rattle.std.specs.Prelude.{ℕ, ◌+◌, ◌-◌, ◌==◌, Bool, true, false, ◌&&◌, if◌then◌else◌, Option, Some, None, List, [], ◌∷◌, ◌++◌, length}
use Rattle.std.specs.Option.{option_map}
use Rattle.value.specs.declared.refusal.Mode.{Mode}
use Rattle.value.specs.declared.refusal.Code.{Code}
use Rattle.schema.specs.declared.changes.Change.{Change}
use Rattle.schema.specs.Definition.{Catalog}
use Rattle.schema.specs.declared.tables.Tables.{Tables}
use Rattle.schema.specs.Plain.{is_sound, put_all}
use Rattle.statement.specs.declared.statement.Statement.{Statement}
use Rattle.statement.specs.declared.reading.Reading.{Reading}
use Rattle.statement.specs.declared.reply.Reply.{Reply}
use Rattle.statement.specs.declared.reply.Reply.TheVariants.{Committed, Imported, Safe, Refused}
use Rattle.statement.specs.declared.outcome.Mark.{Mark}
use Rattle.statement.specs.Evaluation.{outcome, writes}
use Rattle.statement.specs.Fits.{fits}
use Rattle.statement.specs.Footprint.{footprint}
use Rattle.history.specs.declared.event.Action.{Action}
use Rattle.history.specs.declared.event.Action.TheVariants.{Run, Broken, Poll, Import, Commit, Rollback}
use Rattle.history.specs.Transactions.{is_read_write}
use Rattle.history.specs.Events.{goes_on}
use Rattle.retrace.specs.Trails.{Trail}
use Rattle.retrace.specs.declared.run.When.{When}

-- A transaction on its way.
pub record Going (A : Type 0) : Type 0 where
  pub trace : Trail A
  pub refused : List (Change A)  -- what its last refused statement would have written
  pub own : Option (Tables A)  -- what it sees, while it may write
  pub owed : Bool  -- its session has still to end it
  pub active : Bool  -- it may still commit: no statement of it has failed, and no commit has doomed it

-- the number of a commit, where the transaction may write
abbrev pub number_of : When → Bool → ℕ
number_of w read_write = if read_write then w.commits + 1 else 0

module _ {A : Type 0} where
  -- ---- a statement

  -- the statement is one that may write, and is evaluated on sound tables
  abbrev pub is_evaluated : Catalog → Statement A → Tables A → Bool
  is_evaluated c q X = writes q && fits c q && is_sound c X

  abbrev pub changes_on : Catalog → Statement A → Tables A → List (Change A)
  changes_on c q X = if is_evaluated c q X then (outcome c q X).changes else []

  abbrev pub marks_on : Catalog → Statement A → Tables A → List (Mark A)
  marks_on c q X = if is_evaluated c q X then (outcome c q X).marks else []

  -- what the statement writes, and which references it marks, on what its transaction sees
  abbrev pub changes_of : Catalog → Statement A → Option (Tables A) → List (Change A)
  changes_of c q None = []
  changes_of c q (Some X) = changes_on c q X

  abbrev pub marks_of : Catalog → Statement A → Option (Tables A) → List (Mark A)
  marks_of c q None = []
  marks_of c q (Some X) = marks_on c q X

  -- what it reads
  abbrev pub reads_of : Catalog → Statement A → List (Reading A)
  reads_of c q = if fits c q then footprint c q else []

  -- ---- a transaction

  -- with these read and written at a place
  abbrev pub grown : ℕ → List (Reading A) → List (Change A) → List (Mark A) → Trail A → Trail A
  grown place rs xs ms t = record t {
    reads = t.reads ++ rs;
    changes = t.changes ++ xs;
    marks = t.marks ++ ms;
    moments = t.moments ++ record { place = place; reads = length (t.reads ++ rs); changes = length (t.changes ++ xs); marks = length (t.marks ++ ms) } ∷ [];
  }

  -- its statement was answered at this place
  abbrev pub answered : Catalog → ℕ → Statement A → Going A → Going A
  answered c place q g = record g {
    trace = grown place (reads_of c q) (changes_of c q g.own) (marks_of c q g.own) g.trace;
    own = option_map (put_all (changes_of c q g.own)) g.own;
  }

  -- it is over, and its session has still to end it
  abbrev pub over : Going A → Going A
  over g = record g { active = false }

  -- a refusal of this code, after which it goes on or not
  abbrev pub failed : Code → Going A → Going A
  failed c g = if goes_on c then g else over g

  -- its statement was refused with this code
  abbrev pub refused : Catalog → Statement A → Code → Going A → Going A
  refused c q code g = failed code (record g { refused = changes_of c q g.own })

  -- its statement was answered, or refused
  abbrev pub ran : Catalog → ℕ → Statement A → Reply A → Going A → Going A
  ran c place q (Refused r) g = refused c q r.code g
  ran c place q _ g = answered c place q g

  abbrev pub sees : ℕ → Going A → Going A
  sees n g = record g { trace = record g.trace { snapshot = n } }

  -- its snapshot was found to be safe
  abbrev pub polled : When → Reply A → Going A → Going A
  polled w (Safe s) g = sees (s - w.base) g
  polled w _ g = g

  -- it took over a snapshot
  abbrev pub imported : When → Reply A → Going A → Going A
  imported w Imported g = sees w.lent g
  imported w _ g = g

  -- it is over
  abbrev pub ended : ℕ → Going A → Going A
  ended n g = record g { trace = record g.trace { commit = n }; own = None; owed = false; active = false }

  -- it was committed, or refused at its COMMIT
  abbrev pub committed : When → Reply A → Going A → Going A
  committed w Committed g = ended (number_of w g.trace.read_write) g
  committed w _ g = ended 0 g

  -- what an answered action makes of its session's transaction
  abbrev pub turned : Catalog → When → Action A → Reply A → Going A → Going A
  turned c w (Run q) reply g = ran c w.place q reply g
  turned c w Poll reply g = polled w reply g
  turned c w (Import i) reply g = imported w reply g
  turned c w Commit reply g = committed w reply g
  turned c w Rollback reply g = ended 0 g
  turned c w (Broken r) reply g = over g
  turned c w _ reply g = g

  -- ---- its BEGIN

  abbrev pub trail_begun : ℕ → Bool → ℕ → When → Trail A
  trail_begun s read_write number w = record {
    session = s;
    number = number;
    read_write = read_write;
    begin = w.place;
    snapshot = w.commits;
    commit = 0;
    reads = [];
    changes = [];
    marks = [];
    moments = [];
  }

  -- one that may write sees a copy of the tables
  abbrev pub begun : ℕ → Mode → ℕ → When → Tables A → Going A
  begun s m number w X = record {
    trace = trail_begun s (is_read_write m) number w;
    refused = [];
    own = if is_read_write m then Some X else None;
    owed = true;
    active = true;
  }

  -- it is the session's, which has still to end it
  abbrev pub is_its : ℕ → Going A → Bool
  is_its s g = g.trace.session == s && g.owed

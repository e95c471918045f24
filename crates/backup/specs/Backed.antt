-- What a dump of a session's safe snapshot is.
-- PostgreSQL manual, pg_dump (--serializable-deferrable); Ports and Grittner, "Serializable Snapshot Isolation in PostgreSQL" (VLDB 2012), section 4.3.
use Rattle.std.specs.Prelude.{◌≡◌, ℕ, List, ◌++◌, length, Result, Ok, Err}
use Rattle.value.specs.declared.refusal.Refusal.{Refusal}
use Rattle.value.specs.Refusals.{AnswersOrNoMemory}
use Rattle.schema.specs.declared.tables.Tables.{Tables}
use Rattle.history.specs.Opening.{Opening, Recorded}
use Rattle.history.specs.Answer.{IsLegal, view_answer}
use Rattle.dumpplan.specs.Lines.{dump_text}
use Rattle.dumpworker.specs.Dumped.{Dumped}
use Rattle.pass.specs.Knowing.{Known}
use Rattle.restore.specs.Reading.{read_dump}
use Rattle.serial.specs.Backups.{IsBackup}
use Rattle.backup.specs.declared.fault.SafeDumpFault.{SafeDumpFault}
use Rattle.backup.specs.declared.fault.SafeDumpFault.TheVariants.{View, Dump}

module _ {A : Type 0} where
  -- the history that a pass has seen
  abbrev pub seen_by : Opening A → ℕ → Known A → Recorded A
  seen_by opening most p = record { opening = opening; records = p.seen; most = most }

  -- the tables that the session may view after the history
  abbrev pub viewed : Recorded A → ℕ → Result (Tables A) Refusal
  viewed h session = view_answer h.opening h.records session

  -- Tables that a dump may be made of: they are a state of the serial order of the history, and of each legal one that goes on from it. They are as many as the catalog's, and their dump text reads as them.
  pub record IsDumpable (h : Recorded A) (session : ℕ) (X : Tables A) : Type 0 where
    pub backup : IsBackup h.opening h.records session X
    pub counted : length X ≡ length h.opening.catalog
    pub reads_back : read_dump (dump_text h.opening.catalog X) ≡ Ok (h.opening.catalog, X)

  -- What was written is the dump text of tables that are a state of the serial order of the history, and of each legal one that goes on from it; and it reads as these tables.
  pub record IsWhole (h : Recorded A) (session : ℕ) (taken taken_now : List ℕ) : Type 0 where
    pub tables : Tables A
    pub legal : IsLegal h
    pub backup : IsBackup h.opening h.records session tables
    pub written : taken_now ≡ taken ++ dump_text h.opening.catalog tables
    pub reads_back : read_dump (dump_text h.opening.catalog tables) ≡ Ok (h.opening.catalog, tables)

  -- Nothing was written, since the session may view no tables, or memory was refused; or a beginning of the dump text was, and the dump says why.
  abbrev pub IsNone : Recorded A → ℕ → List ℕ → ℕ → SafeDumpFault → List ℕ → ℕ → Type 0
  IsNone h session taken failures (View e) taken_now failures_now = AnswersOrNoMemory (Err e) (viewed h session) × (taken_now ≡ taken) × (failures_now ≡ failures)
  IsNone h session taken failures (Dump f) taken_now failures_now =
      (X : Tables A) × (viewed h session ≡ Ok X) × Dumped (dump_text h.opening.catalog X) taken failures (Err f) taken_now failures_now

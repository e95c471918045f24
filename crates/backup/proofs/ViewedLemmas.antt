-- What holds of the tables that may be viewed holds of a view: a dump may be made of it.
use Rattle.std.proofs.Common.{◌≡◌, ℕ, List, true, true≢false, Result, Ok, Err, inl, inr, sym, ap}
use Rattle.std.specs.Result.{IfOk, is_ok}
use Rattle.value.specs.declared.refusal.Refusal.{Refusal}
use Rattle.value.specs.Refusals.{AnswersOrNoMemory}
use Rattle.schema.specs.Definition.{Catalog}
use Rattle.schema.specs.declared.tables.Tables.{Tables}
use Rattle.schema.specs.Plain.{is_sound}
use Rattle.schema.specs.WellFormed.{is_catalog}
use Rattle.statement.proofs.HeldLemmas.{held_length, held_sound}
use Rattle.history.specs.declared.event.Record.{Record}
use Rattle.history.specs.Opening.{Opening, Recorded}
use Rattle.history.specs.Answer.{Legal, view_answer}
use Rattle.dumpplan.specs.Lines.{dump_text}
use Rattle.restore.specs.Reading.{read_dump}
use Rattle.serial.specs.Backups.{IsBackup}
use Rattle.backup.specs.Backed.{IsDumpable, viewed}

module _ {A : Type 0} where
  pub viewed_so : (P : Tables A → Type 0) (r answer : Result (Tables A) Refusal) → AnswersOrNoMemory r answer → ((X : Tables A) → answer ≡ Ok X → P X) → IfOk r P
  viewed_so P (Ok v) answer (inl e) f = f v (sym e)
  viewed_so P (Ok v) answer (inr e) f = absurd (true≢false (ap is_ok e))
  viewed_so P (Err r) answer e f = tt

  -- A dump may be made of what a session may view after a legal history, by three laws: of views as backups, of views as sound tables, and of what a dump reads as.
  pub viewed_dumpable : (h : Recorded A) (session : ℕ)
      → ((o : Opening A) (es : List (Record A)) (s : ℕ) (X : Tables A) → Legal o es → view_answer o es s ≡ Ok X → IsBackup o es s X)
      → ((o : Opening A) (es : List (Record A)) (s : ℕ) (X : Tables A) → Legal o es → view_answer o es s ≡ Ok X → is_sound o.catalog X ≡ true)
      → ((c : Catalog) (X : Tables A) → is_catalog c ≡ true → is_sound c X ≡ true → read_dump (dump_text c X) ≡ Ok (c, X))
      → (r : Result (Tables A) Refusal) → Legal h.opening h.records → is_catalog h.opening.catalog ≡ true → AnswersOrNoMemory r (viewed h session) → IfOk r (IsDumpable h session)
  viewed_dumpable h session backups sound reads r legal formed answers =
      viewed_so (IsDumpable h session) r (viewed h session) answers
      (λ X e.
      record {
        backup = backups h.opening h.records session X legal e;
        counted = held_length h.opening.catalog X (held_sound h.opening.catalog X (sound h.opening h.records session X legal e));
        reads_back = reads h.opening.catalog X formed (sound h.opening h.records session X legal e);
      })

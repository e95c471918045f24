-- What the records of transactions say is what their statements do from their snapshots.
use Rattle.std.proofs.Common.{◌≡◌, sym, ap, subst, ◌∙◌, List, [], ◌∷◌, ◌++◌}
use Rattle.schema.specs.declared.changes.Change.{Change}
use Rattle.schema.specs.Definition.{Catalog}
use Rattle.schema.specs.declared.tables.Tables.{Tables}
use Rattle.schema.specs.Plain.{put_all}
use Rattle.schema.proofs.PlainLemmas.{put_all-append}
use Rattle.statement.specs.declared.statement.Statement.{Statement}
use Rattle.statement.specs.declared.reading.Reading.{Reading}
use Rattle.statement.specs.declared.outcome.Mark.{Mark}
use Rattle.statement.specs.declared.reply.Reply.{Reply}
use Rattle.statement.specs.Evaluation.{outcome, after}
use Rattle.statement.specs.Footprint.{footprint}
use Rattle.history.specs.declared.event.Record.{Record}
use Rattle.history.specs.Opening.{Opening}
use Rattle.history.specs.Transactions.{World, tables_at}
use Rattle.history.specs.Events.{world_of}
use Rattle.history.specs.Serial.{Alone, read_by, changed_by, marked_by, AllDoneFromSnapshots}
use Rattle.history.proofs.Alone.{Along}
use Rattle.history.specs.Answer.{Legal}
use Rattle.serial.proofs.legal.Faithful.{IsFaithful}
use Rattle.serial.proofs.safe.Prefix.{all_by}
use Rattle.serial.proofs.order.SerialTheorem.{good_world}

module _ {A : Type 0} (c : Catalog) where
  pub along_replies : (qs : List (Statement A × Reply A)) (B : Tables A) (rs : List (Reading A)) (xs : List (Change A)) (ms : List (Mark A)) → Along c qs B rs xs ms → Alone c qs B (put_all xs B)
  along_replies [] B rs xs ms a = ap (λ ys. put_all ys B) a.1
  along_replies (q ∷ qs) B rs xs ms a = (a.4, subst (Alone c qs (after c q.0 B)) (sym (ap (λ ys. put_all ys B) a.6 ∙ put_all-append (outcome c q.0 B).changes a.1 B)) (along_replies qs (after c q.0 B) a.0 a.1 a.2 a.8))

  along_reads : (qs : List (Statement A × Reply A)) (B : Tables A) (rs : List (Reading A)) (xs : List (Change A)) (ms : List (Mark A)) → Along c qs B rs xs ms → rs ≡ read_by c qs
  along_reads [] B rs xs ms a = a.0
  along_reads (q ∷ qs) B rs xs ms a = a.5 ∙ ap (λ zs. footprint c q.0 ++ zs) (along_reads qs (after c q.0 B) a.0 a.1 a.2 a.8)

  along_changes : (qs : List (Statement A × Reply A)) (B : Tables A) (rs : List (Reading A)) (xs : List (Change A)) (ms : List (Mark A)) → Along c qs B rs xs ms → xs ≡ changed_by c qs B
  along_changes [] B rs xs ms a = a.1
  along_changes (q ∷ qs) B rs xs ms a = a.6 ∙ ap (λ zs. (outcome c q.0 B).changes ++ zs) (along_changes qs (after c q.0 B) a.0 a.1 a.2 a.8)

  along_marked : (qs : List (Statement A × Reply A)) (B : Tables A) (rs : List (Reading A)) (xs : List (Change A)) (ms : List (Mark A)) → Along c qs B rs xs ms → ms ≡ marked_by c qs B
  along_marked [] B rs xs ms a = a.2
  along_marked (q ∷ qs) B rs xs ms a = a.7 ∙ ap (λ zs. (outcome c q.0 B).marks ++ zs) (along_marked qs (after c q.0 B) a.0 a.1 a.2 a.8)

module _ {A : Type 0} where
  pub all_done : (o : Opening A) (es : List (Record A)) → Legal o es → AllDoneFromSnapshots (world_of o es)
  all_done o es l = all_by _ w.txns (λ t i. let a : IsFaithful w.catalog (tables_at w t.snapshot) t = (good_world o es l).faithful.each t i in record {
    replies = subst (Alone w.catalog t.statements (tables_at w t.snapshot)) (sym a.own) (along_replies w.catalog t.statements (tables_at w t.snapshot) t.reads t.changes t.marks a.along);
    reads = along_reads w.catalog t.statements (tables_at w t.snapshot) t.reads t.changes t.marks a.along;
    changes = along_changes w.catalog t.statements (tables_at w t.snapshot) t.reads t.changes t.marks a.along;
    marks = along_marked w.catalog t.statements (tables_at w t.snapshot) t.reads t.changes t.marks a.along;
  })
    where
      w : World A
      w = world_of o es

use Rattle.std.proofs.Common.{◌≡◌, ◌∷◌, IfOk, ap, subst, ◌∙◌}
use Rattle.schema.specs.Plain.{cells}
use Rattle.statement.specs.Evaluation.{inserted}
use Rattle.statement.proofs.InsertLemmas.{inserted_null}
use Rattle.statement.proofs.evaluate.insert.Inserting.insert.Goals as goal

pub returns-in-None-clause-ok : goal.returns-in-None-clause-ok
returns-in-None-clause-ok g c =
    let null = rw c.in-None.is at c.in_ok-key_of.ensures.ok in
    inserted_null c.args.self.now.catalog.now c.args.self.now.table c.args.key.now c.args.fields.now (g.R.SnapshotReader.tables c.args.self.now.reader.now) c.at_column-fault.result c.answers.result c.requires.some null c.at_column-fault.ensures c.answers.ensures

pub returns-in_ok-copy_all-in-Some-clause-ok : goal.returns-in_ok-copy_all-in-Some-clause-ok
returns-in_ok-copy_all-in-Some-clause-ok g c =
    let key = rw c.in-Some.is at c.in_ok-key_of.ensures.ok in
    let same : cells c.new-row.result ≡ c.args.key.now ∷ c.args.fields.now = ap cells c.new-row.ensures ∙ ap (λ k. k ∷ c.in_ok-copy_all-in-Some.field-0.items) key.1 ∙ ap (λ vs. c.args.key.now ∷ vs) c.in_ok-copy_all-in-Some.ensures.ok in
    subst (λ vs. IfOk c.write_or_refuse.result (λ o. o ≡ inserted c.args.self.now.catalog.now c.args.self.now.table vs (g.R.SnapshotReader.tables c.args.self.now.reader.now))) same c.write_or_refuse.ensures.ok

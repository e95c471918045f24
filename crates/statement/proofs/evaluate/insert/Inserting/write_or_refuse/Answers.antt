use Rattle.std.proofs.Common.{Some, sym, ◌∙◌}
use Rattle.statement.proofs.InsertLemmas.{inserted_new, inserted_refused}
use Rattle.statement.proofs.WritingLemmas.{write_rises}
use Rattle.statement.proofs.evaluate.insert.Inserting.write_or_refuse.Goals as goal

pub returns-in-Some-clause-ok : goal.returns-in-Some-clause-ok
returns-in-Some-clause-ok g c =
    inserted_refused c.args.self.now.catalog.now c.args.self.now.table c.args.row (g.R.SnapshotReader.tables c.args.self.now.reader.now) c.in-Some.fault c.answers.result (sym c.in-Some.is ∙ c.in_ok-fault.ensures.ok) c.answers.ensures

pub returns-in_ok-written-in-None-clause-ok : goal.returns-in_ok-written-in-None-clause-ok
returns-in_ok-written-in-None-clause-ok g c =
    inserted_new c.args.self.now.catalog.now c.args.self.now.table c.args.row (g.R.SnapshotReader.tables c.args.self.now.reader.now) c.in_ok-written-in-None.written.changes.items c.in_ok-written-in-None.written.marks.items c.outcome.result
    (sym c.in-None.is ∙ c.in_ok-fault.ensures.ok) c.outcome.ensures c.in_ok-written-in-None.ensures.changes c.in_ok-written-in-None.ensures.marks

pub outcome-requires : goal.outcome-requires
outcome-requires g c = write_rises c.args.self.now.table (λ row. Some row.1) c.args.row c.in_ok-written-in-None.written.changes.items c.in_ok-written-in-None.ensures.changes

use Rattle.std.proofs.Common.{◌<◌, Some, length, ap, sym, ◌++◌, ◌∷◌, [], ◌∙◌, arith, add-one}
use Rattle.schema.specs.Plain.{columns_of}
use Rattle.statement.specs.Evaluation.{puts, updated_row}
use Rattle.statement.specs.Marks.{references_of}
use Rattle.statement.proofs.UpdatingLemmas.{all_written, row_assignable}
use Rattle.statement.proofs.WritingLemmas.{all_writes_rise, changes_more, marks_more}
use Rattle.statement.proofs.evaluate.update.Updating.write.Goals as goal

pub updated_row-requires : goal.updated_row-requires
updated_row-requires g c =
    let lt : c.loop-row.row-index < length c.args.rows.now = omega arith in
    row_assignable c.args.self.now.assignments.now c.args.rows.now c.loop-row.row-index c.row-item.result c.requires.assignable lt c.row-item.is

pub loop-row-preserved : goal.loop-row-preserved
loop-row-preserved g c =
    let lt : c.loop-row.row-index < length c.args.rows.now = omega arith in
    let more = c.args.self.now.assignments.now in
    let t = c.args.table in
    let row = c.row-item.result.now in
    let columns = columns_of c.args.self.now.catalog.now t in
    let marks = c.loop-row.written.marks.items in record {
      changes = rw add-one (
          c.in_ok-update.ensures.changes ∙ ap (λ r. c.loop-row.written.changes.items ++ puts t r ∷ []) c.in_ok-after.ensures.ok ∙ ap (λ xs. xs ++ puts t (updated_row more row) ∷ []) c.loop-row.invariant.changes
          ∙ sym (changes_more t (λ r. Some (updated_row more r).1) c.args.rows.now c.loop-row.row-index c.row-item.result lt c.row-item.is)
          );
      marks = rw add-one (
          c.in_ok-update.ensures.marks
          ∙ ap (λ ds. marks ++ references_of t ds row.0 (Some row.1) ++ references_of t ds c.in_ok-after.after.0 (Some c.in_ok-after.after.1)) c.requires.columns
          ∙ ap (λ r. marks ++ references_of t columns row.0 (Some row.1) ++ references_of t columns r.0 (Some r.1)) c.in_ok-after.ensures.ok
          ∙ ap (λ ms. ms ++ references_of t columns row.0 (Some row.1) ++ references_of t columns row.0 (Some (updated_row more row).1)) c.loop-row.invariant.marks
          ∙ sym (marks_more c.args.self.now.catalog.now (g.R.SnapshotReader.tables c.args.self.now.reader.now) t (λ r. Some (updated_row more r).1) c.args.rows.now c.loop-row.row-index c.row-item.result c.requires.rows.each lt c.row-item.is)
          );
    }

pub returns-clause-ok : goal.returns-clause-ok
returns-clause-ok g c =
    all_written c.args.self.now.catalog.now (g.R.SnapshotReader.tables c.args.self.now.reader.now) c.args.table c.args.self.now.assignments.now c.args.rows.now c.loop-row.row-index c.outcome.result c.loop-row.written.changes.items c.loop-row.written.marks.items
    (omega arith) c.outcome.ensures c.loop-row.invariant.changes c.loop-row.invariant.marks

pub outcome-requires : goal.outcome-requires
outcome-requires g c =
    all_writes_rise c.args.table (λ row. Some (updated_row c.args.self.now.assignments.now row).1) c.args.rows.now c.loop-row.row-index c.loop-row.written.changes.items (omega arith) c.requires.rows.sorted c.loop-row.invariant.changes

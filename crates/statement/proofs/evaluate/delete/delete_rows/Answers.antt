use Rattle.std.proofs.Common.{◌<◌, None, Some, length, ap, sym, ◌++◌, ◌∷◌, [], ◌∙◌, arith, add-one}
use Rattle.schema.specs.Plain.{columns_of}
use Rattle.statement.specs.Evaluation.{removes}
use Rattle.statement.specs.Marks.{references_of}
use Rattle.statement.proofs.DeleteLemmas.{references_more}
use Rattle.statement.proofs.WritingLemmas.{changes_more}
use Rattle.statement.proofs.evaluate.delete.delete_rows.Goals as goal

pub loop-row-preserved : goal.loop-row-preserved
loop-row-preserved g c =
    let lt : c.loop-row.row-index < length c.args.rows.now = omega arith in record {
      changes = rw add-one (
          c.in_ok-delete.ensures.changes ∙ ap (λ xs. xs ++ removes c.args.table c.row-item.result.now ∷ []) c.loop-row.invariant.changes
          ∙ sym (changes_more c.args.table (λ r. None) c.args.rows.now c.loop-row.row-index c.row-item.result lt c.row-item.is)
          );
      marks = rw add-one (
          c.in_ok-delete.ensures.marks
          ∙ ap (λ ds. c.loop-row.written.marks.items ++ references_of c.args.table ds c.row-item.result.now.0 (Some c.row-item.result.now.1)) c.columns_of-columns.ensures.columns
          ∙ ap (λ ms. ms ++ references_of c.args.table (columns_of c.args.catalog.now c.args.table) c.row-item.result.now.0 (Some c.row-item.result.now.1)) c.loop-row.invariant.marks
          ∙ sym (references_more c.args.table (columns_of c.args.catalog.now c.args.table) c.args.rows.now c.loop-row.row-index c.row-item.result lt c.row-item.is)
          );
    }

use Rattle.std.proofs.Common.{ap, ◌∙◌}
use Rattle.schema.specs.declared.reader.Bound.TheVariants.{After}
use Rattle.schema.specs.Plain.{rows_of}
use Rattle.schema.specs.Rows.{rows_after}
use Rattle.schema.proofs.RowsInOrder.{rows_left-next}
use Rattle.schema.proofs.reader.row_after.Goals as goal

pub returns-clause-left : goal.returns-clause-left
returns-clause-left g c = rows_left-next _ (After c.key.result) c.next_row.result c.next_row.ensures.ordered c.next_row.ensures.row ∙ ap (rows_after (rows_of (g.R.SnapshotReader.tables c.args.reader.now) c.args.table)) c.key.ensures

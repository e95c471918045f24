use Rattle.schema.proofs.RowsInOrder.{rows_left-next}
use Rattle.schema.proofs.reader.row_within.Goals as goal

pub returns-clause-left : goal.returns-clause-left
returns-clause-left g c = rows_left-next _ c.args.bound c.next_row.result c.next_row.ensures.ordered c.next_row.ensures.row

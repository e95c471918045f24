use Rattle.schema.proofs.RowsInOrder.{rows_left-start}
use Rattle.schema.proofs.reader.first_row.Goals as goal

pub returns-clause-left : goal.returns-clause-left
returns-clause-left g c = rows_left-start _ c.next_row.result c.next_row.ensures.ordered c.next_row.ensures.row

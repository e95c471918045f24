use Rattle.std.proofs.Common.{find}
use Rattle.std.specs.Ordering.{is_le}
use Rattle.value.specs.Order.{value_cmp}
use Rattle.schema.specs.Plain.{rows_of}
use Rattle.restore.proofs.taking.Behind.{none_found}
use Rattle.restore.proofs.pieces.is_behind.Goals as goal

pub returns : goal.returns
returns g c = none_found c.next_row.result (find (λ row. is_le (value_cmp c.args.key.now row.0)) (rows_of c.args.tables.now c.args.table)) c.is_none.result c.next_row.ensures.row c.is_none.ensures

use Rattle.std.proofs.Common.{List, subst}
use Rattle.schema.specs.declared.row.Row.{Row}
use Rattle.schema.specs.declared.reader.Bound.TheVariants.{Start}
use Rattle.schema.specs.Plain.{rows_of}
use Rattle.schema.proofs.RowsInOrder.{rows_within-start}
use Rattle.dumpplan.specs.Pieces.{IsBatch}
use Rattle.dumpplan.proofs.CuttingLemmas.{is_batch}
use Rattle.dumpplan.proofs.cutting.first_rows.Goals as goal

pub returns-clause-rows : goal.returns-clause-rows
returns-clause-rows g c =
    let rows = rows_of (g.R.SnapshotReader.tables c.args.reader.now) c.args.table in
    subst (λ (left : List (Row g.row.A.Denot)). IsBatch c.args.most rows left c.in_ok-batch.batch.items) (rows_within-start rows) (is_batch c.args.most rows Start c.in_ok-batch.batch.items c.requires.some c.next_rows.ensures.ordered c.in_ok-batch.ensures.rows)

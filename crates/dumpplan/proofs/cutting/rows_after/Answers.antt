use Rattle.std.proofs.Common.{subst}
use Rattle.value.specs.declared.key.Key.{Key}
use Rattle.schema.specs.declared.reader.Bound.TheVariants.{After}
use Rattle.schema.specs.Plain.{rows_of}
use Rattle.schema.specs.Rows.{rows_after}
use Rattle.dumpplan.specs.Pieces.{IsBatch}
use Rattle.dumpplan.proofs.CuttingLemmas.{is_batch}
use Rattle.dumpplan.proofs.cutting.rows_after.Goals as goal

pub returns-clause-rows : goal.returns-clause-rows
returns-clause-rows g c =
    let rows = rows_of (g.R.SnapshotReader.tables c.args.reader.now) c.args.table in
    subst (λ (k : Key g.row.A.Denot). IsBatch c.args.most rows (rows_after rows k) c.in_ok-batch.batch.items) c.key.ensures (is_batch c.args.most rows (After c.key.result) c.in_ok-batch.batch.items c.requires.some c.next_rows.ensures.ordered c.in_ok-batch.ensures.rows)

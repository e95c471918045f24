use Rattle.schema.specs.Plain.{rows_of}
use Rattle.schema.proofs.WalkLemmas.{batch_behind}
use Rattle.schema.proofs.walk.rows_behind.Goals as goal

pub returns-in-Some-clause-rows : goal.returns-in-Some-clause-rows
returns-in-Some-clause-rows g c = batch_behind c.more_than-most.result (rows_of (g.R.SnapshotReader.tables c.args.reader.now) c.args.table) c.args.batch.now c.in-Some.last.now c.key.result c.next_rows.result c.more_than-most.ensures c.next_rows.ensures.ordered c.in-Some.ensures.value c.key.ensures c.next_rows.ensures.rows

use Rattle.std.proofs.Common.{arith}
use Rattle.schema.specs.Plain.{rows_of}
use Rattle.schema.proofs.WalkLemmas.{batch_read}
use Rattle.schema.proofs.walk.first_rows.Goals as goal

pub returns-clause-rows : goal.returns-clause-rows
returns-clause-rows g c = batch_read 16 (rows_of (g.R.SnapshotReader.tables c.args.reader.now) c.args.table) c.args.bound c.in_ok-rows.rows.items (omega arith) c.next_rows.ensures.ordered c.in_ok-rows.ensures.rows

use Rattle.schema.specs.Plain.{rows_of}
use Rattle.schema.specs.Walking.{lent}
use Rattle.schema.proofs.WalkLemmas.{batch_read}
use Rattle.snapshot.proofs.AheadLemmas.{read_now}
use Rattle.snapshot.proofs.ahead.Ahead.of.Goals as goal

pub invariant_of-result : goal.invariant_of-result
invariant_of-result g c = (c.requires.has, read_now (rows_of (g.R.SnapshotReader.tables c.args.reader.now) c.args.table) (lent c.args.batch.items))

pub returns : goal.returns
returns g c = batch_read c.args.most (rows_of (g.R.SnapshotReader.tables c.args.reader.now) c.args.table) c.args.bound c.args.batch.items c.requires.some c.requires.ordered c.requires.read

use Rattle.schema.proofs.PlainLemmas.{length-put_all}
use Rattle.snapshot.proofs.overlay.Overlay.new.Goals as goal

pub returns-clause-count : goal.returns-clause-count
returns-clause-count g c = length-put_all c.args.changes.now (g.R.SnapshotReader.tables c.args.reader.now)

use Rattle.std.proofs.Common.{sym, arith}
use Rattle.schema.proofs.PlainLemmas.{length-put_all}
use Rattle.snapshot.proofs.UnchangedLemmas.{untouched_rows}
use Rattle.snapshot.proofs.overlay.Overlay.untouched.Goals as goal

pub returns-in-None-clause-has : goal.returns-in-None-clause-has
returns-in-None-clause-has g c = omega (arith, c.requires, length-put_all c.args.self.now.changes.now (g.R.SnapshotReader.tables c.args.self.now.reader.now))

pub returns-in-None-clause-same : goal.returns-in-None-clause-same
returns-in-None-clause-same g c = sym (untouched_rows c.args.self.now.changes.now (g.R.SnapshotReader.tables c.args.self.now.reader.now) c.args.table (sym c.in-None.ensures))

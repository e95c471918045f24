use Rattle.std.proofs.Common.{arith}
use Rattle.schema.proofs.PlainLemmas.{length-put_all}
use Rattle.snapshot.proofs.overlay.Overlay.lend_next.Goals as goal

pub next_or_gone-requires : goal.next_or_gone-requires
next_or_gone-requires g c = omega (arith, c.requires, length-put_all c.args.self.now.changes.now (g.R.SnapshotReader.tables c.args.self.now.reader.now))

pub next_past-requires : goal.next_past-requires
next_past-requires g c = omega (arith, c.requires, length-put_all c.args.self.now.changes.now (g.R.SnapshotReader.tables c.args.self.now.reader.now))

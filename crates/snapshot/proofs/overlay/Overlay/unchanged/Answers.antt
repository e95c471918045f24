use Rattle.std.proofs.Common.{◌<◌, length, sym, arith}
use Rattle.schema.proofs.PlainLemmas.{length-put_all}
use Rattle.snapshot.proofs.OverlayLemmas.{put_all-in_order}
use Rattle.snapshot.proofs.UnchangedLemmas.{unchanged_within}
use Rattle.snapshot.proofs.overlay.Overlay.unchanged.Goals as goal

pub returns-in-None-clause-has : goal.returns-in-None-clause-has
returns-in-None-clause-has g c = omega (arith, c.requires, length-put_all c.args.self.now.changes.now (g.R.SnapshotReader.tables c.args.self.now.reader.now))

pub returns-in-None-clause-ordered : goal.returns-in-None-clause-ordered
returns-in-None-clause-ordered g c =
    let X = g.R.SnapshotReader.tables c.args.self.now.reader.now in
    let within : c.args.table < length X = omega (arith, c.requires, length-put_all c.args.self.now.changes.now X) in
    put_all-in_order c.args.self.now.changes.now X c.args.table within

pub returns-in-None-clause-same : goal.returns-in-None-clause-same
returns-in-None-clause-same g c =
    let X = g.R.SnapshotReader.tables c.args.self.now.reader.now in
    let within : c.args.table < length X = omega (arith, c.requires, length-put_all c.args.self.now.changes.now X) in
    λ sorted. sym (unchanged_within c.args.self.now.changes.now X c.args.table c.args.after within sorted (sym c.in-None.ensures))

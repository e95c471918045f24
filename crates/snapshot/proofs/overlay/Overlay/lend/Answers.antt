use Rattle.std.proofs.Common.{◌<◌, ap, sym, ◌∙◌, arith, length, unwrap_or}
use Rattle.schema.specs.Plain.{rows_of}
use Rattle.schema.specs.Rows.{row_of}
use Rattle.schema.proofs.PlainLemmas.{length-put_all}
use Rattle.snapshot.proofs.OverlayLemmas.{row_of-overlaid}
use Rattle.snapshot.proofs.overlay.Overlay.lend.Goals as goal

pub get-requires-in-None : goal.get-requires-in-None
get-requires-in-None g c = omega (arith, c.requires, length-put_all c.args.self.now.changes.now (g.R.SnapshotReader.tables c.args.self.now.reader.now))

pub returns-in-Some : goal.returns-in-Some
returns-in-Some g c =
    let X = g.R.SnapshotReader.tables c.args.self.now.reader.now in
    let within : c.args.table < length X = omega (arith, c.requires, length-put_all c.args.self.now.changes.now X) in
    sym (row_of-overlaid c.args.self.now.changes.now X c.args.table c.args.key.now within c.in_key_order.ensures ∙ ap (λ o. unwrap_or o (row_of (rows_of X c.args.table) c.args.key.now)) (sym c.in-Some.ensures))

pub returns-in-None : goal.returns-in-None
returns-in-None g c =
    let X = g.R.SnapshotReader.tables c.args.self.now.reader.now in
    let within : c.args.table < length X = omega (arith, c.requires, length-put_all c.args.self.now.changes.now X) in
    c.get-in-None.ensures
    ∙ sym (row_of-overlaid c.args.self.now.changes.now X c.args.table c.args.key.now within c.in_key_order.ensures ∙ ap (λ o. unwrap_or o (row_of (rows_of X c.args.table) c.args.key.now)) (sym c.in-None.ensures))

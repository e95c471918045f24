use Rattle.std.proofs.Common.{rules, ◌≡◌, ap, ◌∙◌}
use Rattle.schema.specs.declared.reader.Bound.TheVariants.{After}
use Rattle.schema.specs.Plain.{rows_of}
use Rattle.schema.specs.Rows.{rows_after, rows_left}
use Rattle.schema.proofs.RowsInOrder.{rows_left-next}
use Rattle.schema.proofs.WalkLemmas.{one_more, one_longer}
use Rattle.schema.proofs.reader.SnapshotReader.next_rows.Goals as goal

pub loop-next-init : goal.loop-next-init
loop-next-init g c =
    let rows = rows_of (g.Self.SnapshotReader.tables c.args.self.now) c.args.table in
    let left = rows_left-next rows c.args.after c.next_row-next.result c.next_row-next.ensures.ordered c.next_row-next.ensures.row in
    search rules

pub loop-next-smaller : goal.loop-next-smaller
loop-next-smaller g c =
    let rows = rows_of (g.Self.SnapshotReader.tables c.args.self.now) c.args.table in
    let left : rows_left rows c.next_row-next-in-Some.result ≡ rows_after rows c.in-Some.row.now.0 =
    rows_left-next rows (After c.key.result) c.next_row-next-in-Some.result c.next_row-next-in-Some.ensures.ordered c.next_row-next-in-Some.ensures.row ∙ ap (rows_after rows) c.key.ensures in
    search rules

pub loop-next-preserved : goal.loop-next-preserved
loop-next-preserved g c =
    let rows = rows_of (g.Self.SnapshotReader.tables c.args.self.now) c.args.table in
    let left : rows_left rows c.next_row-next-in-Some.result ≡ rows_after rows c.in-Some.row.now.0 =
    rows_left-next rows (After c.key.result) c.next_row-next-in-Some.result c.next_row-next-in-Some.ensures.ordered c.next_row-next-in-Some.ensures.row ∙ ap (rows_after rows) c.key.ensures in
    let more = one_more rows c.loop-next.rows.items c.push.new.self.items c.in-Some.row c.next_row-next-in-Some.result c.in_ok-push.ensures.items left in
    let longer = one_longer c.loop-next.rows.items c.push.new.self.items c.in-Some.row c.in_ok-push.ensures.items in
    (more ∙ search rules, search rules)

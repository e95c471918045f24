use Rattle.std.proofs.Common.{◌≡◌, ◌<◌, false, true, ap, sym, ◌∙◌, arith, length, List, Bor}
use Rattle.std.proofs.lemmas.List.{length-map}
use Rattle.std.specs.Option.{option_map_or}
use Rattle.schema.specs.Changing.{next_change}
use Rattle.schema.specs.Walking.{lent}
use Rattle.schema.specs.declared.row.Row.{Row}
use Rattle.schema.proofs.PlainLemmas.{length-put_all}
use Rattle.snapshot.specs.Merging.{last_is_before}
use Rattle.snapshot.proofs.MergeLemmas.{all_before}
use Rattle.snapshot.proofs.OverlayLemmas.{put_all-in_order}
use Rattle.snapshot.proofs.overlay.Overlay.changed_rows.Goals as goal

pub next_rows-requires : goal.next_rows-requires
next_rows-requires g c = omega (arith, c.requires, length-put_all c.args.self.now.changes.now (g.R.SnapshotReader.tables c.args.self.now.reader.now))

pub returns-in_err-rows-clause-ordered : goal.returns-in_err-rows-clause-ordered
returns-in_err-rows-clause-ordered g c = put_all-in_order c.args.self.now.changes.now (g.R.SnapshotReader.tables c.args.self.now.reader.now) c.args.table (omega (arith, c.requires, length-put_all c.args.self.now.changes.now (g.R.SnapshotReader.tables c.args.self.now.reader.now))) c.next_rows.ensures.ordered

pub returns-then-are_before_changes-clause-ordered : goal.returns-then-are_before_changes-clause-ordered
returns-then-are_before_changes-clause-ordered g c = put_all-in_order c.args.self.now.changes.now (g.R.SnapshotReader.tables c.args.self.now.reader.now) c.args.table (omega (arith, c.requires, length-put_all c.args.self.now.changes.now (g.R.SnapshotReader.tables c.args.self.now.reader.now))) c.next_rows.ensures.ordered

pub returns-then-are_before_changes-clause-rows : goal.returns-then-are_before_changes-clause-rows
returns-then-are_before_changes-clause-rows g c =
    let xs = c.args.self.now.changes.now in
    let X = g.R.SnapshotReader.tables c.args.self.now.reader.now in
    let within : c.args.table < length X = omega (arith, c.requires, length-put_all xs X) in
    let many : length (lent c.in_ok-rows.rows.items) ≡ c.args.most = omega (arith, c.if-len-most.true, c.len.ensures, c.in_ok-rows.rows.ok.0, length-map c.in_ok-rows.rows.items (λ row. row.now)) in
    let before : option_map_or (λ change. last_is_before (lent c.in_ok-rows.rows.items) change.0) (next_change xs c.args.table c.args.after) false ≡ true =
    sym (ap (λ (zs : List (Bor (Row g.row.A.Denot))). option_map_or (λ change. last_is_before (lent zs) change.0) (next_change xs c.args.table c.args.after) false) c.as_slice.ensures.value)
    ∙ sym c.are_before_changes.ensures
    ∙ c.if-are_before_changes.true in
    all_before xs X c.args.table c.args.after within c.in_key_order.ensures c.next_rows.ensures.ordered c.args.most c.args.after (lent c.in_ok-rows.rows.items) c.in_ok-rows.ensures.rows many before

pub returns-then-most-eq0-clause-ordered : goal.returns-then-most-eq0-clause-ordered
returns-then-most-eq0-clause-ordered g c = put_all-in_order c.args.self.now.changes.now (g.R.SnapshotReader.tables c.args.self.now.reader.now) c.args.table (omega (arith, c.requires, length-put_all c.args.self.now.changes.now (g.R.SnapshotReader.tables c.args.self.now.reader.now))) c.next_rows.ensures.ordered

use Rattle.std.proofs.Common.{◌≡◌, ◌<◌, ◌++◌, [], Some, None, ap, sym, ◌∙◌, arith, length, take}
use Rattle.std.proofs.lemmas.List.{length-map, take_all}
use Rattle.std.specs.List.{slice_get}
use Rattle.std.specs.Option.{option_copied, option_map}
use Rattle.schema.specs.Plain.{put_all, rows_of}
use Rattle.schema.specs.Rows.{Rows, rows_within}
use Rattle.schema.specs.Walking.{lent}
use Rattle.schema.proofs.PlainLemmas.{length-put_all}
use Rattle.snapshot.specs.Merging.{unless_before}
use Rattle.snapshot.proofs.ComingLemmas.{came_first, came_next}
use Rattle.snapshot.proofs.MergeLemmas.{own_stands, lent_stands, ends, own_smaller, few_more}
use Rattle.snapshot.proofs.OverlayLemmas.{put_all-in_order}
use Rattle.snapshot.proofs.overlay.Overlay.merge_rows.Goals as goal

pub of-ahead-requires-clause-has : goal.of-ahead-requires-clause-has
of-ahead-requires-clause-has g c = omega (arith, c.requires.has, length-put_all c.args.self.now.changes.now (g.R.SnapshotReader.tables c.args.self.now.reader.now))

pub returns-in_err-take_own-in-Some-clause-ordered : goal.returns-in_err-take_own-in-Some-clause-ordered
returns-in_err-take_own-in-Some-clause-ordered g c = put_all-in_order c.args.self.now.changes.now (g.R.SnapshotReader.tables c.args.self.now.reader.now) c.args.table (omega (arith, c.requires.has, length-put_all c.args.self.now.changes.now (g.R.SnapshotReader.tables c.args.self.now.reader.now))) c.requires.sorted

pub returns-in_default-clause-ordered : goal.returns-in_default-clause-ordered
returns-in_default-clause-ordered g c = put_all-in_order c.args.self.now.changes.now (g.R.SnapshotReader.tables c.args.self.now.reader.now) c.args.table (omega (arith, c.requires.has, length-put_all c.args.self.now.changes.now (g.R.SnapshotReader.tables c.args.self.now.reader.now))) c.requires.sorted

pub returns-in_err-take_lent-in-None-clause-ordered : goal.returns-in_err-take_lent-in-None-clause-ordered
returns-in_err-take_lent-in-None-clause-ordered g c = put_all-in_order c.args.self.now.changes.now (g.R.SnapshotReader.tables c.args.self.now.reader.now) c.args.table (omega (arith, c.requires.has, length-put_all c.args.self.now.changes.now (g.R.SnapshotReader.tables c.args.self.now.reader.now))) c.requires.sorted

pub returns-clause-ordered : goal.returns-clause-ordered
returns-clause-ordered g c = put_all-in_order c.args.self.now.changes.now (g.R.SnapshotReader.tables c.args.self.now.reader.now) c.args.table (omega (arith, c.requires.has, length-put_all c.args.self.now.changes.now (g.R.SnapshotReader.tables c.args.self.now.reader.now))) c.requires.sorted

pub both-smaller-in-Some : goal.both-smaller-in-Some
both-smaller-in-Some g c =
    let change = option_map (λ p. (p.0.now, option_copied p.1)) c.both.change in
    let is : unless_before (slice_get c.both.ahead 0) change ≡ Some (c.in-Some.key.now, option_copied c.in-Some.own) = ap (λ o. unless_before o change) (sym c.first.ensures) ∙ sym c.in-Some.ensures in
    let came = came_next c.args.self.now.changes.now c.args.table c.in_key_order.ensures (slice_get c.both.ahead 0) change c.in-Some.key (option_copied c.in-Some.own) c.both.coming c.next-change-in-Some.new.self (option_map (λ p. (p.0.now, option_copied p.1)) c.next-change-in-Some.result) is c.both.invariant.2 c.next-change-in-Some.ensures.first c.next-change-in-Some.ensures.rest in
    own_smaller c.args.self.now.changes.now c.args.table c.both.ahead change c.in-Some.key (option_copied c.in-Some.own) c.take_own.new.ahead (option_map (λ p. (p.0.now, option_copied p.1)) c.next-change-in-Some.result) c.in_key_order.ensures is c.in_ok-take_own-in-Some.ensures.ahead came.0

pub both-preserved-in-Some : goal.both-preserved-in-Some
both-preserved-in-Some g c =
    let xs = c.args.self.now.changes.now in
    let X = g.R.SnapshotReader.tables c.args.self.now.reader.now in
    let within : c.args.table < length X = omega (arith, c.requires.has, length-put_all xs X) in
    let change = option_map (λ p. (p.0.now, option_copied p.1)) c.both.change in
    let is : unless_before (slice_get c.both.ahead 0) change ≡ Some (c.in-Some.key.now, option_copied c.in-Some.own) = ap (λ o. unless_before o change) (sym c.first.ensures) ∙ sym c.in-Some.ensures in
    let few : length (lent c.both.rows.items) < c.args.most = omega (arith, c.both-test.true, c.len.ensures, c.both.rows.ok.0, length-map c.both.rows.items (λ row. row.now)) in
    let came = came_next xs c.args.table c.in_key_order.ensures (slice_get c.both.ahead 0) change c.in-Some.key (option_copied c.in-Some.own) c.both.coming c.next-change-in-Some.new.self (option_map (λ p. (p.0.now, option_copied p.1)) c.next-change-in-Some.result) is c.both.invariant.2 c.next-change-in-Some.ensures.first c.next-change-in-Some.ensures.rest in (
      own_stands xs X c.args.table c.args.after within c.in_key_order.ensures c.requires.sorted (lent c.both.rows.items) c.both.ahead change c.in-Some.key (option_copied c.in-Some.own) (lent c.take_own.new.rows.items) c.take_own.new.ahead (option_map (λ p. (p.0.now, option_copied p.1)) c.next-change-in-Some.result) c.both.invariant.0 is c.in_ok-take_own-in-Some.ensures.rows c.in_ok-take_own-in-Some.ensures.ahead came.0,
      few_more (lent c.both.rows.items) (lent c.take_own.new.rows.items) (option_copied c.in-Some.own) c.args.most c.in_ok-take_own-in-Some.ensures.rows few,
      came.1,
    )

pub returns-in_default-clause-rows : goal.returns-in_default-clause-rows
returns-in_default-clause-rows g c =
    let xs = c.args.self.now.changes.now in
    let X = g.R.SnapshotReader.tables c.args.self.now.reader.now in
    let within : c.args.table < length X = omega (arith, c.requires.has, length-put_all xs X) in
    let change = option_map (λ p. (p.0.now, option_copied p.1)) c.both.change in
    let is : unless_before (slice_get c.both.ahead 0) change ≡ None = ap (λ o. unless_before o change) (sym c.first.ensures) ∙ sym c.in-None.ensures in
    let e = ends xs X c.args.table c.args.after within c.in_key_order.ensures c.requires.sorted (lent c.both.rows.items) c.both.ahead change c.both.invariant.0 is (sym c.in_default.ensures) in
    sym (take_all c.args.most (lent c.both.rows.items) c.both.invariant.1) ∙ ap (take c.args.most) e

pub both-preserved : goal.both-preserved
both-preserved g c =
    let xs = c.args.self.now.changes.now in
    let X = g.R.SnapshotReader.tables c.args.self.now.reader.now in
    let within : c.args.table < length X = omega (arith, c.requires.has, length-put_all xs X) in
    let change = option_map (λ p. (p.0.now, option_copied p.1)) c.both.change in
    let is : unless_before (slice_get c.both.ahead 0) change ≡ None = ap (λ o. unless_before o change) (sym c.first.ensures) ∙ sym c.in-None.ensures in
    let few : length (lent c.both.rows.items) < c.args.most = omega (arith, c.both-test.true, c.len.ensures, c.both.rows.ok.0, length-map c.both.rows.items (λ row. row.now)) in
    let more = c.in_ok-take_lent-in-None.ensures.rows in (
      lent_stands xs X c.args.table c.args.after within c.in_key_order.ensures c.requires.sorted (lent c.both.rows.items) c.both.ahead change c.in-Some-first.row.now (lent c.take_lent.new.rows.items) c.take_lent.new.ahead c.both.invariant.0 is (sym c.in-Some-first.ensures) more c.in_ok-take_lent-in-None.ensures.ahead,
      few_more (lent c.both.rows.items) (lent c.take_lent.new.rows.items) (Some c.in-Some-first.row.now) c.args.most more few,
      c.both.invariant.2,
    )

pub both-init : goal.both-init
both-init g c =
    let xs = c.args.self.now.changes.now in
    let X = g.R.SnapshotReader.tables c.args.self.now.reader.now in
    let came = came_first xs c.args.table c.in_key_order.ensures c.args.after c.walk-coming.result c.next-change.new.self (option_map (λ p. (p.0.now, option_copied p.1)) c.next-change.result) c.walk-coming.ensures c.next-change.ensures.first c.next-change.ensures.rest in
    let none : lent c.new-rows.result.items ≡ [] = ap lent c.new-rows.ensures.items in (
      record { place = c.args.after; whole = ap (λ (zs : Rows g.row.A.Denot). zs ++ rows_within (rows_of (put_all xs X) c.args.table) c.args.after) none; lent = c.of-ahead.ensures; next = came.0 },
      omega (arith, ap length none),
      came.1,
    )

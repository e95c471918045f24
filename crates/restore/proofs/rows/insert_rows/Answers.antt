use Rattle.std.proofs.Common.{ap, arith, length}
use Rattle.std.proofs.lemmas.List.{nil_from_length}
use Rattle.restore.proofs.taking.Pieces.{inserting-first, inserted-next, inserted-stops, inserted-all}
use Rattle.restore.proofs.taking.StillThere.{still-same, still-on}
use Rattle.restore.proofs.rows.insert_rows.Goals as goal

pub loop-row-init : goal.loop-row-init
loop-row-init g c = record {
  rows = λ counted lines more read alone some.
      inserting-first counted c.args.catalog.now c.args.table more c.args.number lines c.args.tables.now c.into_iter-row-iterator.result.rest.items c.args.rows.items c.into_iter-row-iterator.ensures.into_iter_gives.0 read alone;
  room = omega (arith, ap length c.into_iter-row-iterator.ensures.into_iter_gives.0, c.args.rows.ok.0);
  stay = still-same c.args.tables.now;
  same_tables = c.requires.same_tables;
  sound = λ h. h;
}

pub loop-row-preserved : goal.loop-row-preserved
loop-row-preserved g c = record {
  rows = λ counted lines more read alone some.
      inserted-next counted c.args.catalog.now c.args.table more c.args.number lines c.args.tables.now c.loop-row.line c.loop-row.row-iterator.rest.items c.next.new.self.rest.items c.loop-row.tables c.insert_read.new.tables c.in-Some.row
      some c.in-Some.ensures.steps.0 c.in_default.ensures.row (c.loop-row.invariant.rows counted lines more read alone some);
  room = omega (arith, c.loop-row.invariant.room, ap length c.in-Some.ensures.steps.0);
  stay = still-on c.args.tables.now c.loop-row.tables c.insert_read.new.tables c.loop-row.invariant.stay c.insert_read.ensures.stay;
  same_tables = c.insert_read.ensures.same_tables;
  sound = λ h. c.insert_read.ensures.sound (c.loop-row.invariant.sound h);
}

pub returns-in-Err-clause-rows : goal.returns-in-Err-clause-rows
returns-in-Err-clause-rows g c = λ counted lines more read alone some.
    rw c.at.ensures (inserted-stops counted c.args.catalog.now c.args.table more c.args.number lines c.args.tables.now c.loop-row.line c.loop-row.row-iterator.rest.items c.next.new.self.rest.items c.loop-row.tables c.in-Some.row c.in-Err.error
    some c.in-Some.ensures.steps.0 c.in-Err.ensures.row (c.loop-row.invariant.rows counted lines more read alone some))

pub returns-clause-rows : goal.returns-clause-rows
returns-clause-rows g c = λ counted lines more read alone some.
    let rest = c.loop-row.row-iterator.rest in
    inserted-all counted c.args.catalog.now c.args.table more c.args.number lines c.args.tables.now c.loop-row.line rest.items c.loop-row.tables
    (nil_from_length rest.items (omega (arith, rest.ok.0, c.in-None.ensures.steps.0))) (c.loop-row.invariant.rows counted lines more read alone some)

pub returns-in-Err-clause-stay : goal.returns-in-Err-clause-stay
returns-in-Err-clause-stay g c = still-on c.args.tables.now c.loop-row.tables c.insert_read.new.tables c.loop-row.invariant.stay c.insert_read.ensures.stay

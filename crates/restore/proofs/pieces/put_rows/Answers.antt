use Rattle.std.proofs.Common.{ap, arith, length}
use Rattle.std.proofs.lemmas.List.{nil_from_length}
use Rattle.schema.specs.Definition.{columns_of}
use Rattle.schema.specs.Plain.{rows_of}
use Rattle.restore.proofs.taking.Followed.{followed-first}
use Rattle.restore.proofs.taking.Pieces.{inserting-first, inserted-next, inserted-stops, inserted-all}
use Rattle.restore.proofs.taking.StillThere.{still-same, still-on}
use Rattle.restore.proofs.taking.Taking.{next_is, followed-on, kept-first, kept-next}
use Rattle.restore.proofs.pieces.put_rows.Goals as goal

pub loop-row-init : goal.loop-row-init
loop-row-init g c = record {
  rows = λ counted lines more read alone some.
      inserting-first counted c.args.catalog.now c.args.table more c.args.number lines c.args.tables.now c.into_iter-row-iterator.result.rest.items c.args.rows.items c.into_iter-row-iterator.ensures.into_iter_gives.0 read alone;
  room = omega (arith, ap length c.into_iter-row-iterator.ensures.into_iter_gives.0, c.args.rows.ok.0);
  followed = followed-first c.args.tables.now (columns_of c.args.catalog.now c.args.table) (rows_of c.args.tables.now c.args.table) c.args.rows.items c.into_iter-row-iterator.result.rest.items c.into_iter-row-iterator.ensures.into_iter_gives.0 c.requires.rise c.requires.follows;
  stay = still-same c.args.tables.now;
  same_tables = c.requires.same_tables;
  sound = λ lines read h. kept-first c.args.catalog.now c.args.table c.into_iter-row-iterator.result.rest.items c.args.rows.items lines c.args.tables.now c.into_iter-row-iterator.ensures.into_iter_gives.0 read h;
}

pub put_read-requires-clause-next : goal.put_read-requires-clause-next
put_read-requires-clause-next g c =
    next_is c.loop-row.tables (columns_of c.args.catalog.now c.args.table) (rows_of c.loop-row.tables c.args.table) c.loop-row.row-iterator.rest.items c.next.new.self.rest.items c.in-Some.row c.in-Some.ensures.steps.0 c.loop-row.invariant.followed

pub loop-row-preserved : goal.loop-row-preserved
loop-row-preserved g c = record {
  rows = λ counted lines more read alone some.
      inserted-next counted c.args.catalog.now c.args.table more c.args.number lines c.args.tables.now c.loop-row.line c.loop-row.row-iterator.rest.items c.next.new.self.rest.items c.loop-row.tables c.put_read.new.tables c.in-Some.row
      some c.in-Some.ensures.steps.0 c.in_default.ensures.row (c.loop-row.invariant.rows counted lines more read alone some);
  room = omega (arith, c.loop-row.invariant.room, ap length c.in-Some.ensures.steps.0);
  followed =
      followed-on c.loop-row.tables c.put_read.new.tables (columns_of c.args.catalog.now c.args.table) (rows_of c.loop-row.tables c.args.table) (rows_of c.put_read.new.tables c.args.table) c.loop-row.row-iterator.rest.items c.next.new.self.rest.items c.in-Some.row
      c.in-Some.ensures.steps.0 c.put_read.ensures.stay c.loop-row.invariant.followed c.in_default.ensures.put;
  stay = still-on c.args.tables.now c.loop-row.tables c.put_read.new.tables c.loop-row.invariant.stay c.put_read.ensures.stay;
  same_tables = c.put_read.ensures.same_tables;
  sound = λ lines read h.
      kept-next c.args.catalog.now c.args.table c.loop-row.row-iterator.rest.items c.next.new.self.rest.items c.loop-row.tables c.put_read.new.tables c.in-Some.row c.in-Some.ensures.steps.0 c.put_read.ensures.sound (c.loop-row.invariant.sound lines read h);
}

pub returns-in-Err-clause-rows : goal.returns-in-Err-clause-rows
returns-in-Err-clause-rows g c = λ counted lines more read alone some.
    rw c.at.ensures (inserted-stops counted c.args.catalog.now c.args.table more c.args.number lines c.args.tables.now c.loop-row.line c.loop-row.row-iterator.rest.items c.next.new.self.rest.items c.loop-row.tables c.in-Some.row c.in-Err.error
    some c.in-Some.ensures.steps.0 c.in-Err.ensures.row (c.loop-row.invariant.rows counted lines more read alone some))

pub returns-in-Err-clause-sound : goal.returns-in-Err-clause-sound
returns-in-Err-clause-sound g c = λ lines read h.
    (kept-next c.args.catalog.now c.args.table c.loop-row.row-iterator.rest.items c.next.new.self.rest.items c.loop-row.tables c.put_read.new.tables c.in-Some.row c.in-Some.ensures.steps.0 c.put_read.ensures.sound (c.loop-row.invariant.sound lines read h)).sound

pub returns-clause-rows : goal.returns-clause-rows
returns-clause-rows g c = λ counted lines more read alone some.
    let rest = c.loop-row.row-iterator.rest in
    inserted-all counted c.args.catalog.now c.args.table more c.args.number lines c.args.tables.now c.loop-row.line rest.items c.loop-row.tables
    (nil_from_length rest.items (omega (arith, rest.ok.0, c.in-None.ensures.steps.0))) (c.loop-row.invariant.rows counted lines more read alone some)

pub returns-clause-sound : goal.returns-clause-sound
returns-clause-sound g c = λ lines read h. (c.loop-row.invariant.sound lines read h).sound

pub returns-in-Err-clause-stay : goal.returns-in-Err-clause-stay
returns-in-Err-clause-stay g c = still-on c.args.tables.now c.loop-row.tables c.put_read.new.tables c.loop-row.invariant.stay c.put_read.ensures.stay

use Rattle.std.proofs.Common.{◌+◌, ◌∷◌, length, refl, sym, ap, subst, ◌∙◌}
use Rattle.std.proofs.lemmas.Result.{err_from_is_err_and}
use Rattle.restore.specs.Reading.{Within, lines_of, read_lines}
use Rattle.schema.specs.Definition.{columns_of}
use Rattle.restore.specs.Rounds.{Told, AreWaiting}
use Rattle.restore.specs.Rows.{MayRise}
use Rattle.restore.proofs.stepwise.Reading.{split_some, stops_at}
use Rattle.restore.proofs.taking.Rounds.{waiting-first, waiting-line}
use Rattle.restore.proofs.workers.Workers.read_rows.Goals as goal

pub loop-found-init : goal.loop-found-init
loop-found-init g c =
    let told : Told g.row.A.Denot = λ counted. read_lines c.args.lines.number (Within counted c.args.catalog.now c.args.tables c.args.table) (lines_of c.args.lines.text.now) in
    record {
      rows = waiting-first c.args.catalog.now c.args.table c.args.tables told c.new-round.result.tables c.new-round.result.number c.args.lines.number c.new-round.result.pieces.items (lines_of c.args.lines.text.now) c.new-round.ensures.tables c.new-round.ensures.number c.new-round.ensures.pieces (λ counted. refl);
      ready = record {
        same_tables = ap length c.new-round.ensures.tables ∙ c.requires.same_tables;
        rise = subst (MayRise c.new-round.result.tables (columns_of c.args.catalog.now c.args.table)) (sym c.new-round.ensures.pieces) tt;
      };
      found = c.in_ok-found.ensures.found;
    }

pub returns-in_err-tables-in-None-clause-rows : goal.returns-in_err-tables-in-None-clause-rows
returns-in_err-tables-in-None-clause-rows g c = λ counted.
    let told : Told g.row.A.Denot = λ counted. read_lines c.args.lines.number (Within counted c.args.catalog.now c.args.tables c.args.table) (lines_of c.args.lines.text.now) in
    let left = c.loop-found.lines in
    let taken = c.in_err-tables-in-None.ensures.taken c.args.tables told left.number (lines_of left.text.now) (split_some left.text.now) c.loop-found.invariant.rows in
    let p = err_from_is_err_and c.from_residual-in_err-tables-in-None.result c.from_residual-in_err-tables-in-None.ensures.1 in
    rw (p.1, p.2) (taken counted)

pub returns-in_err-rest-in-None-clause-rows : goal.returns-in_err-rest-in-None-clause-rows
returns-in_err-rest-in-None-clause-rows g c = λ counted.
    let told : Told g.row.A.Denot = λ counted. read_lines c.args.lines.number (Within counted c.args.catalog.now c.args.tables c.args.table) (lines_of c.args.lines.text.now) in
    let left = c.loop-found.lines in
    let taken = c.in_ok-tables-in-None.ensures.taken c.args.tables told left.number (lines_of left.text.now) (split_some left.text.now) c.loop-found.invariant.rows in
    let p = err_from_is_err_and c.from_residual-in_err-rest-in-None.result c.from_residual-in_err-rest-in-None.ensures.1 in
    rw (p.1, p.2) (stops_at c.in_err-rest-in-None.field-0.0 _ _ (c.in_err-rest-in-None.ensures counted) (taken.0 counted))

pub returns-in-None-clause-rows : goal.returns-in-None-clause-rows
returns-in-None-clause-rows g c = λ counted.
    let told : Told g.row.A.Denot = λ counted. read_lines c.args.lines.number (Within counted c.args.catalog.now c.args.tables c.args.table) (lines_of c.args.lines.text.now) in
    let left = c.loop-found.lines in
    let taken = c.in_ok-tables-in-None.ensures.taken c.args.tables told left.number (lines_of left.text.now) (split_some left.text.now) c.loop-found.invariant.rows in
    sym (taken.0 counted) ∙ c.in_ok-rest-in-None.ensures counted

pub returns-in-None-clause-sound : goal.returns-in-None-clause-sound
returns-in-None-clause-sound g c = λ h.
    let told : Told g.row.A.Denot = λ counted. read_lines c.args.lines.number (Within counted c.args.catalog.now c.args.tables c.args.table) (lines_of c.args.lines.text.now) in
    let left = c.loop-found.lines in
    let taken = c.in_ok-tables-in-None.ensures.taken c.args.tables told left.number (lines_of left.text.now) (split_some left.text.now) c.loop-found.invariant.rows in
    taken.1 h

pub next_round-requires-clause-number : goal.next_round-requires-clause-number
next_round-requires-clause-number g c = λ κs lives.
    let found = rw c.in-Some.is at c.loop-found.invariant.found in
    found.1 ∙ ap (λ n. n + 1) (sym found.0)

pub next_round-requires-clause-rows : goal.next_round-requires-clause-rows
next_round-requires-clause-rows g c = λ κs lives. (rw c.in-Some.is at c.loop-found.invariant.found).3

pub read_end_of_rows-requires : goal.read_end_of_rows-requires
read_end_of_rows-requires g c = rw c.in-None.is at c.loop-found.invariant.found

pub returns-in_err-left-in-Some-clause-rows : goal.returns-in_err-left-in-Some-clause-rows
returns-in_err-left-in-Some-clause-rows g c = λ counted.
    let told : Told g.row.A.Denot = λ counted. read_lines c.args.lines.number (Within counted c.args.catalog.now c.args.tables c.args.table) (lines_of c.args.lines.text.now) in
    let left = c.loop-found.lines in
    let next = c.in-Some.rows in
    let found = rw c.in-Some.is at c.loop-found.invariant.found in
    let line = waiting-line c.args.catalog.now c.args.table c.args.tables told c.loop-found.round.tables c.loop-found.round.number c.loop-found.round.pieces.items left.number left.text.now next.0.bytes.now next.0.rest.text.now found.2 c.loop-found.invariant.rows in
    let waits = subst (λ n. AreWaiting c.args.catalog.now c.args.table c.args.tables told c.loop-found.round.tables c.loop-found.round.number c.loop-found.round.pieces.items n (next.0.bytes.now ∷ lines_of next.0.rest.text.now)) (sym found.0) line in
    let p = err_from_is_err_and c.from_residual-in_err-left-in-Some.result c.from_residual-in_err-left-in-Some.ensures.1 in
    rw (p.1, p.2) (c.in_err-left-in-Some.ensures.begun c.args.tables told waits counted)

pub loop-found-preserved : goal.loop-found-preserved
loop-found-preserved g c =
    let told : Told g.row.A.Denot = λ counted. read_lines c.args.lines.number (Within counted c.args.catalog.now c.args.tables c.args.table) (lines_of c.args.lines.text.now) in
    let left = c.loop-found.lines in
    let next = c.in-Some.rows in
    let found = rw c.in-Some.is at c.loop-found.invariant.found in
    let line = waiting-line c.args.catalog.now c.args.table c.args.tables told c.loop-found.round.tables c.loop-found.round.number c.loop-found.round.pieces.items left.number left.text.now next.0.bytes.now next.0.rest.text.now found.2 c.loop-found.invariant.rows in
    let waits = subst (λ n. AreWaiting c.args.catalog.now c.args.table c.args.tables told c.loop-found.round.tables c.loop-found.round.number c.loop-found.round.pieces.items n (next.0.bytes.now ∷ lines_of next.0.rest.text.now)) (sym found.0) line in
    record {
      rows = c.in_ok-left-in-Some.ensures.begun c.args.tables told waits;
      ready = c.in_ok-left-in-Some.ensures.ready;
      found = c.in_ok-left-in-Some.ensures.found;
    }

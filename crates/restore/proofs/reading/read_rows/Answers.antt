use Rattle.std.proofs.Common.{◌≡◌, true, false, Ok, refl, ap, sym, ◌∙◌}
use Rattle.std.specs.Str.{bytes_eq}
use Rattle.std.proofs.lemmas.Result.{err_from_is_err_and}
use Rattle.dumpplan.specs.Lines.{end_of_rows}
use Rattle.restore.specs.Steps.{◌>>=◌}
use Rattle.restore.specs.Reading.{Within, ended, with_row}
use Rattle.restore.proofs.stepwise.Refusals.{stops}
use Rattle.restore.proofs.stepwise.Reading.{stops_at, no_next, stepped, refuses, rows_end, row_is}
use Rattle.restore.proofs.reading.read_rows.Goals as goal

pub returns-in_err-line-clause-rows : goal.returns-in_err-line-clause-rows
returns-in_err-line-clause-rows g c = λ counted.
    let p = err_from_is_err_and c.from_residual-in_err-line.result c.from_residual-in_err-line.ensures.1 in
    rw (p.1, p.2) (stops_at c.in_err-line.field-0.0 _ _
    (no_next {A = g.row.A.Denot} c.in_err-line.field-0.0 c.loop-kinds.lines.number (Within counted c.args.catalog.now c.loop-kinds.tables c.args.table) c.loop-kinds.lines.text.now refl c.in_err-line.ensures.line)
    (c.loop-kinds.invariant.rows counted))

pub returns-then-eq-clause-rows : goal.returns-then-eq-clause-rows
returns-then-eq-clause-rows g c = λ counted.
    let is : bytes_eq c.in_ok-line.line.now end_of_rows ≡ true = ap (bytes_eq c.in_ok-line.line.now) (sym c.as_slice.ensures) ∙ sym c.eq.ensures ∙ c.if-eq.true in
    sym (c.loop-kinds.invariant.rows counted)
    ∙ stepped c.in_ok-line.rest c.loop-kinds.lines.number (Within counted c.args.catalog.now c.loop-kinds.tables c.args.table) (ended counted c.args.catalog.now c.loop-kinds.tables c.args.table)
    c.loop-kinds.lines.text.now c.in_ok-line.line.now c.in_ok-line.ensures.line.0 c.in_ok-line.ensures.line.1 (rows_end counted c.args.catalog.now c.loop-kinds.tables c.args.table c.in_ok-line.line.now is)

pub returns-in-Err-clause-rows : goal.returns-in-Err-clause-rows
returns-in-Err-clause-rows g c = λ counted.
    let other : bytes_eq c.in_ok-line.line.now end_of_rows ≡ false = ap (bytes_eq c.in_ok-line.line.now) (sym c.as_slice.ensures) ∙ sym c.eq.ensures ∙ c.if-eq.false in
    rw c.at.ensures (stops_at _ _ _
    (refuses c.in-Err.error c.loop-kinds.lines.number (Within counted c.args.catalog.now c.loop-kinds.tables c.args.table) c.loop-kinds.lines.text.now c.in_ok-line.line.now c.in_ok-line.rest.text.now c.in_ok-line.ensures.line.0
    (rw (row_is counted c.args.catalog.now c.loop-kinds.tables c.args.table c.in_ok-line.line.now other)
    (stops c.in-Err.error (with_row c.args.catalog.now c.loop-kinds.tables c.args.table c.in_ok-line.line.now) (λ Y. Ok (Within counted c.args.catalog.now Y c.args.table)) c.in-Err.ensures.row)))
    (c.loop-kinds.invariant.rows counted))

pub loop-kinds-preserved : goal.loop-kinds-preserved
loop-kinds-preserved g c =
    let other : bytes_eq c.in_ok-line.line.now end_of_rows ≡ false = ap (bytes_eq c.in_ok-line.line.now) (sym c.as_slice.ensures) ∙ sym c.eq.ensures ∙ c.if-eq.false in
    record {
      rows = λ counted.
          sym (stepped c.in_ok-line.rest c.loop-kinds.lines.number (Within counted c.args.catalog.now c.loop-kinds.tables c.args.table) (Within counted c.args.catalog.now c.insert_line.new.tables c.args.table)
          c.loop-kinds.lines.text.now c.in_ok-line.line.now c.in_ok-line.ensures.line.0 c.in_ok-line.ensures.line.1
          (row_is counted c.args.catalog.now c.loop-kinds.tables c.args.table c.in_ok-line.line.now other ∙ ap (λ r. r >>= λ Y. Ok (Within counted c.args.catalog.now Y c.args.table)) c.in_default.ensures.row))
          ∙ c.loop-kinds.invariant.rows counted;
      same_tables = c.insert_line.ensures.same_tables;
      sound = λ h. c.insert_line.ensures.sound (c.loop-kinds.invariant.sound h);
    }

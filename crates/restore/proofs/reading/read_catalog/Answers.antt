use Rattle.std.proofs.Common.{Ok, refl, sym, ◌∙◌}
use Rattle.std.proofs.lemmas.Result.{err_from_is_err_and}
use Rattle.restore.specs.Reading.{Progress, Created, with_table}
use Rattle.restore.proofs.stepwise.Refusals.{stops}
use Rattle.restore.proofs.stepwise.Reading.{stops_at, no_next, stepped, refuses, begins, table_is, table_added}
use Rattle.restore.proofs.reading.read_catalog.Goals as goal

pub returns-in_err-line : goal.returns-in_err-line
returns-in_err-line g c = λ counted.
    let p = err_from_is_err_and c.from_residual.result c.from_residual.ensures.1 in
    rw (p.1, p.2) (stops_at c.in_err-line.field-0.0 _ _
    (no_next {A = g.row.A.Denot} c.in_err-line.field-0.0 c.loop-catalog.lines.number (Created counted c.loop-catalog.catalog) c.loop-catalog.lines.text.now refl c.in_err-line.ensures.line)
    (c.loop-catalog.invariant counted))

pub returns-in_default : goal.returns-in_default
returns-in_default g c = λ counted.
    sym (c.loop-catalog.invariant counted)
    ∙ begins {A = g.row.A.Denot} counted c.loop-catalog.catalog c.loop-catalog.lines.number c.loop-catalog.lines.text.now c.in_ok-line.line.now c.in_ok-line.rest.text.now c.in_ok-line.ensures.line.0 (sym c.in_default.ensures)

pub returns-in-Err : goal.returns-in-Err
returns-in-Err g c = λ counted.
    rw c.at.ensures (stops_at _ _ _
    (refuses {A = g.row.A.Denot} c.in-Err.error c.loop-catalog.lines.number (Created counted c.loop-catalog.catalog) c.loop-catalog.lines.text.now c.in_ok-line.line.now c.in_ok-line.rest.text.now c.in_ok-line.ensures.line.0
    (rw (table_is {A = g.row.A.Denot} counted c.loop-catalog.catalog c.in_ok-line.line.now c.in-Some.text.now (sym c.in-Some.ensures))
    (stops {Y = Progress g.row.A.Denot} c.in-Err.error (with_table c.loop-catalog.catalog c.in-Some.text.now) (λ d. Ok (Created counted d)) c.in-Err.ensures.table)))
    (c.loop-catalog.invariant counted))

pub loop-catalog-preserved : goal.loop-catalog-preserved
loop-catalog-preserved g c = λ counted.
    sym (stepped {A = g.row.A.Denot} c.in_ok-line.rest c.loop-catalog.lines.number (Created counted c.loop-catalog.catalog) (Created counted c.add_table.new.catalog)
    c.loop-catalog.lines.text.now c.in_ok-line.line.now c.in_ok-line.ensures.line.0 c.in_ok-line.ensures.line.1
    (table_added counted c.loop-catalog.catalog c.add_table.new.catalog c.in_ok-line.line.now c.in-Some.text.now (sym c.in-Some.ensures) c.in_default-add_table.ensures.table))
    ∙ c.loop-catalog.invariant counted

use Rattle.std.proofs.Common.{[], Ok, refl, sym, ◌∙◌}
use Rattle.std.proofs.lemmas.Result.{err_from_is_err_and}
use Rattle.restore.specs.Reading.{Progress, Start, Created, version}
use Rattle.restore.proofs.stepwise.Refusals.{stops}
use Rattle.restore.proofs.stepwise.Reading.{stops_at, no_next, stepped, refuses, first_is, version_read}
use Rattle.restore.proofs.reading.read_head.Goals as goal

pub returns-in_err-line : goal.returns-in_err-line
returns-in_err-line g c =
    let p = err_from_is_err_and c.from_residual.result c.from_residual.ensures.1 in
    rw (p.1, p.2) (no_next {A = g.row.A.Denot} c.in_err-line.field-0.0 c.args.lines.number Start c.args.lines.text.now refl c.in_err-line.ensures.line)

pub returns-in-Err : goal.returns-in-Err
returns-in-Err g c =
    rw c.at.ensures (refuses {A = g.row.A.Denot} c.in-Err.error c.args.lines.number Start c.args.lines.text.now c.in_ok-line.line.now c.in_ok-line.rest.text.now c.in_ok-line.ensures.line.0
    (rw (first_is {A = g.row.A.Denot} c.in_ok-line.line.now) (stops {Y = Progress g.row.A.Denot} c.in-Err.error (version c.in_ok-line.line.now) (λ counted. Ok (Created counted [])) c.in-Err.ensures)))

pub returns-in_err-catalog-in-Ok : goal.returns-in_err-catalog-in-Ok
returns-in_err-catalog-in-Ok g c =
    let p = err_from_is_err_and c.from_residual-in_err-catalog-in-Ok.result c.from_residual-in_err-catalog-in-Ok.ensures.1 in
    rw (p.1, p.2) (stops_at c.in_err-catalog-in-Ok.field-0.0 _ _ (c.in_err-catalog-in-Ok.ensures c.in-Ok.counted)
    (sym (stepped {A = g.row.A.Denot} c.in_ok-line.rest c.args.lines.number Start (Created c.in-Ok.counted []) c.args.lines.text.now c.in_ok-line.line.now c.in_ok-line.ensures.line.0 c.in_ok-line.ensures.line.1
    (version_read c.in_ok-line.line.now c.in-Ok.counted c.in-Ok.ensures))))

pub returns-in_ok-catalog-in-Ok : goal.returns-in_ok-catalog-in-Ok
returns-in_ok-catalog-in-Ok g c =
    stepped {A = g.row.A.Denot} c.in_ok-line.rest c.args.lines.number Start (Created c.in-Ok.counted []) c.args.lines.text.now c.in_ok-line.line.now c.in_ok-line.ensures.line.0 c.in_ok-line.ensures.line.1
    (version_read c.in_ok-line.line.now c.in-Ok.counted c.in-Ok.ensures)
    ∙ c.in_ok-catalog-in-Ok.ensures c.in-Ok.counted

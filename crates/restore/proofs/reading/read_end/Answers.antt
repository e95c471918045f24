use Rattle.std.proofs.Common.{length, Ok, Err, sym}
use Rattle.std.proofs.lemmas.Result.{err_from_is_err_and}
use Rattle.restore.proofs.stepwise.Reading.{ends, at_end, reads_at, past_end}
use Rattle.restore.proofs.reading.read_end.Goals as goal

pub returns-in_err-rest : goal.returns-in_err-rest
returns-in_err-rest g c = λ counted.
    let p = err_from_is_err_and c.from_residual.result c.from_residual.ensures.1 in
    rw (p.1, p.2) (ends counted c.args.catalog.now c.args.tables.now (length c.args.catalog.now) (Err c.in_err-rest.field-0.0) c.args.lines.number c.args.lines.text.now (past_end c.args.catalog.now) c.in_err-rest.ensures)

pub returns : goal.returns
returns g c = λ counted.
    reads_at (λ _. Ok (c.args.catalog.now, c.args.tables.now)) c.end_of_lines.result _ _
    (at_end {A = g.row.A.Denot} c.end_of_lines.result c.in_ok-rest.rest.number c.args.catalog.now c.args.tables.now c.in_ok-rest.rest.text.now c.end_of_lines.ensures)
    (sym (ends counted c.args.catalog.now c.args.tables.now (length c.args.catalog.now) (Ok c.in_ok-rest.rest) c.args.lines.number c.args.lines.text.now (past_end c.args.catalog.now) c.in_ok-rest.ensures))

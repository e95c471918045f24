use Rattle.std.specs.Option.{option_copied}
use Rattle.std.proofs.lemmas.Result.{err_from_is_err_and}
use Rattle.copytext.specs.Reading.{cut, cut_more}
use Rattle.copytext.proofs.ValueLemmas.{first_stops, all_read, ok_answer}
use Rattle.copytext.proofs.reading.read_first.Goals as goal

pub returns-in_err-value-clause-err : goal.returns-in_err-value-clause-err
returns-in_err-value-clause-err g c =
    let p = err_from_is_err_and c.from_residual.result c.from_residual.ensures.1 in
    rw (p.1, p.2) (first_stops c.args.first c.args.others.now (cut c.args.line.now) (cut_more (option_copied c.first_field.result.1)) c.first_field.result.0.now c.in_err-value.field-0.0
    c.first_field.ensures.fields c.in_err-value.ensures)

pub returns-clause-ok : goal.returns-clause-ok
returns-clause-ok g c =
    all_read c.args.first c.args.others.now (cut c.args.line.now) (cut_more (option_copied c.first_field.result.1)) c.first_field.result.0.now c.in_ok-value.value c.in_ok-values.values.items
    c.first_field.ensures.fields (ok_answer c.in_ok-value.value _ c.in_ok-value.ensures) c.in_ok-values.ensures.ok

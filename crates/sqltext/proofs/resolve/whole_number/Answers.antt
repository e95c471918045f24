use Rattle.std.proofs.lemmas.Result.{err_from_is_err_and}
use Rattle.sqltext.proofs.EachLemmas.{number_read, number_alone, number_fails}
use Rattle.sqltext.proofs.resolve.whole_number.Goals as goal

pub returns-in_err-value : goal.returns-in_err-value
returns-in_err-value g c =
    let p = err_from_is_err_and c.from_residual.result c.from_residual.ensures.1 in
    rw (p.1, p.2) (number_fails _ c.in_err-value.field-0.0 c.args.text.now c.args.digits c.bytes_of.result.now c.bytes_of.ensures c.in_err-value.ensures)

pub unreachable-requires : goal.unreachable-requires
unreachable-requires g c = number_alone c.args.digits c.bytes_of.result.now c.in_ok-value.value c.in_ok-value.ensures c.in_default.not-Int

pub returns : goal.returns
returns g c = number_read c.args.text.now c.args.digits c.bytes_of.result.now c.in_ok-value.value c.in-Int.number c.bytes_of.ensures c.in_ok-value.ensures c.in-Int.is

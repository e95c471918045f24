use Rattle.std.proofs.Common.{◌∷◌}
use Rattle.std.proofs.lemmas.Result.{err_from_is_err_and}
use Rattle.copytext.specs.Reading.{line_values}
use Rattle.restore.proofs.stepwise.Refusals.{refused_or_memory}
use Rattle.restore.proofs.rows.values_of.Goals as goal

pub returns-in_err-read_key_row : goal.returns-in_err-read_key_row
returns-in_err-read_key_row g c =
    let p = err_from_is_err_and c.from_residual.result c.from_residual.ensures.1 in
    rw (p.1, p.2) (refused_or_memory (line_values (c.args.key ∷ c.args.others.now) c.args.line.now) c.in_err-read_key_row.field-0.0 c.in_err-read_key_row.ensures.err)

use Rattle.std.proofs.lemmas.Result.{err_from_is_err_and}
use Rattle.transcript.proofs.TraceLemmas.{no_parts}
use Rattle.transcript.proofs.traces.fitting.Goals as goal

pub returns-in_err-all-clause-gives : goal.returns-in_err-all-clause-gives
returns-in_err-all-clause-gives g c =
    let p = err_from_is_err_and c.from_residual.result c.from_residual.ensures.1 in
    rw (p.1, p.2) (no_parts c.args.catalog.now c.args.has_time c.args.reader c.in_err-all.field-0.0 c.in_err-all.ensures)

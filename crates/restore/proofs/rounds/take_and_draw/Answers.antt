use Rattle.std.proofs.lemmas.Result.{err_from_is_err_and}
use Rattle.restore.proofs.rounds.take_and_draw.Goals as goal

pub returns-in_err-tables : goal.returns-in_err-tables
returns-in_err-tables g c = let p = err_from_is_err_and c.from_residual.result c.from_residual.ensures.1 in rw (p.1, p.2) c.in_err-tables.ensures.taken

pub returns : goal.returns
returns g c = (c.in_ok-tables.ensures.taken, c.in_ok-tables.ensures.same_tables, c.in_ok-drawn.ensures, c.in_ok-found.ensures.found)

use Rattle.std.proofs.Common.{Some, refl}
use Rattle.std.proofs.lemmas.Result.{err_from_is_err_and}
use Rattle.schema.specs.Definition.{columns_of}
use Rattle.restore.proofs.taking.StillThere.{free-still, may_rise, still-same}
use Rattle.restore.proofs.workers.Workers.read_behind.Goals as goal

pub returns-in_err-tables : goal.returns-in_err-tables
returns-in_err-tables g c = let p = err_from_is_err_and c.from_residual.result c.from_residual.ensures.1 in rw (p.1, p.2) c.in_err-tables.ensures.taken

pub returns : goal.returns
returns g c =
    let X = c.in_ok-tables.tables in
    let columns = columns_of c.args.catalog.now c.args.table in
    let rise = may_rise (Some X) X columns c.in_ok-pieces.pieces.items (free-still X X columns (still-same X)) (rw c.columns_of.ensures at c.in_ok-pieces.ensures.known) in
    (c.in_ok-tables.ensures.taken, refl, c.in_ok-pieces.ensures.read, record { same_tables = c.in_ok-tables.ensures.same_tables; rise = rise }, c.in_ok-found.ensures.found)

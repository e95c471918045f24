use Rattle.std.proofs.Common.{None, refl}
use Rattle.std.proofs.lemmas.Result.{err_from_is_err_and}
use Rattle.schema.specs.Definition.{columns_of}
use Rattle.restore.proofs.taking.StillThere.{free-nowhere, may_rise}
use Rattle.restore.proofs.workers.Workers.read_beside.Goals as goal

pub returns-in_err-tables : goal.returns-in_err-tables
returns-in_err-tables g c = let p = err_from_is_err_and c.from_residual.result c.from_residual.ensures.1 in rw (p.1, p.2) (rw c.in_err-tables.was at c.join-theirs.ensures.second)

pub returns-in_err-theirs : goal.returns-in_err-theirs
returns-in_err-theirs g c = let p = err_from_is_err_and c.from_residual-in_err-theirs.result c.from_residual-in_err-theirs.ensures.1 in rw (p.1, p.2) (λ X told next left some waits counted. tt)

pub gather_both-requires-clause-theirs : goal.gather_both-requires-clause-theirs
gather_both-requires-clause-theirs g c = λ κs lives. let alone = c.alone-reader.ensures in rw (alone.known, alone.columns, alone.kinds, alone.lines) (rw c.in_ok-theirs.was at c.join-theirs.ensures.first)

pub gather_both-requires-clause-mine : goal.gather_both-requires-clause-mine
gather_both-requires-clause-mine g c = λ κs lives. let alone = c.alone-reader.ensures in rw (alone.known, alone.columns, alone.kinds, alone.lines) (rw c.in_ok-tables.was at c.join-theirs.ensures.second).2

pub returns : goal.returns
returns g c =
    let X = c.in_ok-tables.tables in
    let columns = columns_of c.args.catalog.now c.args.table in
    let alone = c.alone-reader.ensures in
    let turn = rw c.in_ok-tables.was at c.join-theirs.ensures.second in (
      turn.0,
      refl,
      rw (alone.kinds, alone.lines) at c.in_ok-pieces.ensures.read,
      record {
        same_tables = turn.1;
        rise = may_rise None X columns c.in_ok-pieces.pieces.items (free-nowhere X columns) (rw (alone.known, alone.columns, c.columns_of-columns.ensures) at c.in_ok-pieces.ensures.known);
      },
      turn.3,
    )

use Rattle.std.proofs.Common.{◌∷◌}
use Rattle.std.proofs.lemmas.Result.{err_from_is_err_and}
use Rattle.restore.specs.Reading.{lines_of, kinds_of}
use Rattle.restore.proofs.taking.Rounds.{some_lines, waiting-next}
use Rattle.restore.proofs.taking.Taking.{pieces_same}
use Rattle.restore.proofs.workers.Workers.next_round.Goals as goal

pub returns-clause-begun : goal.returns-clause-begun
returns-clause-begun g c = λ X told waits.
    let line = c.args.found.0 in
    let rows = c.args.found.1.items in
    let round = c.in_ok-round.round in
    let turn = c.in_ok-round.ensures in
    let taken = turn.0 X told line.number (line.bytes.now ∷ lines_of line.rest.text.now) (some_lines line.bytes.now (lines_of line.rest.text.now)) waits in
    let are = pieces_same 1000 c.args.kinds.now (kinds_of c.args.catalog.now c.args.table) round.pieces.items c.as_slice.result.now rows c.requires.kinds c.as_slice.ensures.value turn.2 in
    waiting-next c.args.catalog.now c.args.table X told round.tables round.number line rows c.args.found.2 1000 round.pieces.items turn.1 c.requires.number c.requires.rows are taken

pub returns-in_err-round-clause-begun : goal.returns-in_err-round-clause-begun
returns-in_err-round-clause-begun g c = λ X told waits.
    let line = c.args.found.0 in
    let taken = c.in_err-round.ensures X told line.number (line.bytes.now ∷ lines_of line.rest.text.now) (some_lines line.bytes.now (lines_of line.rest.text.now)) waits in
    let p = err_from_is_err_and c.from_residual.result c.from_residual.ensures.1 in
    rw (p.1, p.2) taken

use Rattle.std.proofs.Common.{arith, sym, ◌∙◌}
use Rattle.transactions.proofs.PieceLemmas.{meets-ended, meets-found, meets-further, seen-alike}
use Rattle.transactions.proofs.conflicts.rows.meets_another.Goals as goal

pub returns-then-meets_any : goal.returns-then-meets_any
returns-then-meets_any g c =
    let around = seen-alike c.transaction.view_is c.piece-piece.ensures.around in
    meets-found c.args.transaction.now c.args.changes.now around (sym c.meets_any.ensures ∙ c.if-meets_any.true) c.loop-walk.invariant.1

pub loop-walk-preserved : goal.loop-walk-preserved
loop-walk-preserved g c =
    let around = seen-alike c.transaction.view_is c.piece-piece.ensures.around in
    (c.piece-piece.ensures.within, meets-further c.args.transaction.now c.args.changes.now around (sym c.meets_any.ensures ∙ c.if-meets_any.false) c.loop-walk.invariant.1)

pub returns : goal.returns
returns g c = meets-ended c.args.transaction.now c.args.changes.now c.args.transactions.now c.loop-walk.walk.at (omega (arith, c.loop-walk-test.false)) c.loop-walk.invariant.1

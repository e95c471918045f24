use Rattle.std.proofs.Common.{arith, sym, ◌∙◌}
use Rattle.history.specs.Transactions.{edge, node}
use Rattle.transactions.proofs.PieceLemmas.{seen-alike, some-ended, some-found, some-further}
use Rattle.transactions.specs.Structures.{closed_pair}
use Rattle.transactions.proofs.AroundLemmas.{pivots-none}
use Rattle.transactions.proofs.conflicts.cause.cause_from.Goals as goal

pub returns-then-is_some : goal.returns-then-is_some
returns-then-is_some g c =
    let around = seen-alike c.first.view_is c.piece-piece.ensures.around in
    some-found (closed_pair node edge c.args.all.now c.args.first.now) around c.cause_of_pivots-cause.result c.cause_of_pivots-cause.ensures (sym c.is_some.ensures ∙ c.if-is_some.true) c.loop-walk.invariant.1

pub loop-walk-preserved : goal.loop-walk-preserved
loop-walk-preserved g c =
    let around = seen-alike c.first.view_is c.piece-piece.ensures.around in
    let none = pivots-none c.args.first.now 18446744073709551615 c.args.all.now around.between around.past in
    (c.piece-piece.ensures.within, some-further (closed_pair node edge c.args.all.now c.args.first.now) around none c.cause_of_pivots-cause.result c.cause_of_pivots-cause.ensures (sym c.is_some.ensures ∙ c.if-is_some.false) c.loop-walk.invariant.1)

pub returns : goal.returns
returns g c = some-ended (closed_pair node edge c.args.all.now c.args.first.now) c.args.all.now c.loop-walk.walk.at (omega (arith, c.loop-walk-test.false)) c.loop-walk.invariant.1

use Rattle.std.proofs.Common.{arith}
use Rattle.transactions.specs.Active.{before_active}
use Rattle.transactions.proofs.ActiveLemmas.{active-none}
use Rattle.transactions.proofs.PieceLemmas.{fold-ended, fold-further}
use Rattle.transactions.proofs.kept.active.first_active.Goals as goal

pub loop-walk-preserved : goal.loop-walk-preserved
loop-walk-preserved g c =
    let around = c.piece-piece.ensures.around in
    (c.piece-piece.ensures.within, fold-further before_active c.loop-walk.first around (active-none _ _ around.between around.past) c.first_among-first.ensures c.loop-walk.invariant.1)

pub returns : goal.returns
returns g c = fold-ended before_active c.args.transactions.now c.loop-walk.walk.at c.loop-walk.first (omega (arith, c.loop-walk-test.false)) c.loop-walk.invariant.1

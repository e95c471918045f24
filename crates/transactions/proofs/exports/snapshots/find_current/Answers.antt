use Rattle.std.proofs.Common.{arith}
use Rattle.history.specs.Transactions.{is_of}
use Rattle.transactions.proofs.PieceLemmas.{find-ended, find-further, found-at, place-within}
use Rattle.transactions.proofs.StretchLemmas.{past-of}
use Rattle.transactions.proofs.exports.snapshots.find_current.Goals as goal

pub returns-in-Some-clause-some : goal.returns-in-Some-clause-some
returns-in-Some-clause-some g c = found-at (is_of c.args.session) c.args.transactions.now c.loop-walk.walk.at c.in-Some.at c.piece-piece.ensures.around c.in-Some.ensures.within c.in-Some.ensures.some c.loop-walk.invariant.1

pub returns-in-Some-clause-within : goal.returns-in-Some-clause-within
returns-in-Some-clause-within g c = place-within c.args.transactions.now c.loop-walk.walk.at c.in-Some.at c.piece-piece.ensures.around c.in-Some.ensures.within

pub loop-walk-preserved : goal.loop-walk-preserved
loop-walk-preserved g c = (c.piece-piece.ensures.within, find-further (is_of c.args.session) (past-of c.args.session _ _) c.piece-piece.ensures.around c.in_default.ensures.none c.loop-walk.invariant.1)

pub returns-clause-none : goal.returns-clause-none
returns-clause-none g c = find-ended (is_of c.args.session) c.args.transactions.now c.loop-walk.walk.at (omega (arith, c.loop-walk-test.false)) c.loop-walk.invariant.1

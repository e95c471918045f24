use Rattle.std.proofs.Common.{arith}
use Rattle.transactions.proofs.PieceLemmas.{owed-further, owed-over}
use Rattle.transactions.proofs.ends.owed.owed_snapshots.Goals as goal

pub loop-walk-preserved : goal.loop-walk-preserved
loop-walk-preserved g c = (c.piece-piece.ensures.within, owed-further c.loop-walk.snapshots.items c.piece-piece.ensures.around c.in_ok-push_owed.ensures.ok c.loop-walk.invariant.1)

pub returns-clause-ok : goal.returns-clause-ok
returns-clause-ok g c = owed-over c.args.transactions.now c.loop-walk.walk.at c.loop-walk.snapshots.items (omega (arith, c.loop-walk-test.false)) c.loop-walk.invariant.1

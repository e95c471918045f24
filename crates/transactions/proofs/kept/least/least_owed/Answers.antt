use Rattle.std.proofs.Common.{arith}
use Rattle.transactions.specs.Forgetting.{is_looked_at}
use Rattle.transactions.proofs.PieceLemmas.{least-ended, least-further}
use Rattle.transactions.proofs.kept.least.least_owed.Goals as goal

pub loop-walk-preserved : goal.loop-walk-preserved
loop-walk-preserved g c = (c.piece-piece.ensures.within, least-further (is_looked_at c.args.unspoilt.now c.args.which) c.requires.owed c.loop-walk.least c.piece-piece.ensures.around c.least_snapshot-least.ensures c.loop-walk.invariant.1)

pub returns : goal.returns
returns g c = least-ended (is_looked_at c.args.unspoilt.now c.args.which) c.args.transactions.now c.loop-walk.walk.at c.loop-walk.least (omega (arith, c.loop-walk-test.false)) c.loop-walk.invariant.1

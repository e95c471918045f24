use Rattle.std.proofs.Common.{arith}
use Rattle.value.specs.Isolation.{with_doom}
use Rattle.history.specs.Transactions.{node, reads_from}
use Rattle.transactions.proofs.PieceLemmas.{fold-ended, fold-further}
use Rattle.transactions.proofs.StretchLemmas.{dooms-none}
use Rattle.transactions.proofs.conflicts.dooms.dooms.Goals as goal

pub loop-walk-preserved : goal.loop-walk-preserved
loop-walk-preserved g c =
    let around = c.piece-piece.ensures.around in
    let none = dooms-none c.args.all.now c.args.committer.now _ _ around.between around.past in
    (c.piece-piece.ensures.within, fold-further (with_doom node reads_from c.args.all.now c.args.committer.now) c.loop-walk.causes.items around none c.in_ok-push_dooms.ensures.ok c.loop-walk.invariant.1)

pub returns-clause-ok : goal.returns-clause-ok
returns-clause-ok g c = fold-ended (with_doom node reads_from c.args.all.now c.args.committer.now) c.args.all.now c.loop-walk.walk.at c.loop-walk.causes.items (omega (arith, c.loop-walk-test.false)) c.loop-walk.invariant.1

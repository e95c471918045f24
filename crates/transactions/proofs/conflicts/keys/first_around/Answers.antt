use Rattle.std.proofs.Common.{ap, arith, min, ◌∙◌, ◌≤◌}
use Rattle.history.specs.Transactions.{Txn, is_done}
use Rattle.transactions.proofs.PieceLemmas.{part-begun, part-ended, part-further, seen-alike}
use Rattle.transactions.proofs.conflicts.keys.first_around.Goals as goal

pub loop-walk-init : goal.loop-walk-init
loop-walk-init g c = (
  omega (arith, c.new-walk.ensures),
  omega (arith, c.commit_of-least.ensures),
  part-begun c.args.transaction.now (λ (t : Txn _). is_done t.standing) c.args.transactions.now c.new-walk.result.at c.commit_of-least.result c.new-walk.ensures c.commit_of-least.ensures,
)

pub loop-walk-preserved : goal.loop-walk-preserved
loop-walk-preserved g c =
    let around = seen-alike c.transaction.view_is c.piece-piece.ensures.around in
    let less : c.min-least.result ≤ c.args.transaction.now.commit = omega (arith, c.min-least.ensures, c.loop-walk.invariant.1) in
    (c.piece-piece.ensures.within, less, part-further c.args.transaction.now (λ (t : Txn _). is_done t.standing) c.loop-walk.least c.min-least.result around (c.min-least.ensures ∙ ap (λ n. min n c.loop-walk.least) c.first_committed.ensures) c.loop-walk.invariant.2)

pub returns : goal.returns
returns g c = part-ended c.args.transaction.now (λ (t : Txn _). is_done t.standing) c.args.transactions.now c.loop-walk.walk.at c.loop-walk.least (omega (arith, c.loop-walk-test.false)) c.loop-walk.invariant.1 c.loop-walk.invariant.2

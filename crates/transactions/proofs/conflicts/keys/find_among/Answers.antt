use Rattle.std.proofs.Common.{◌==◌, ◌&&◌, ◌∙◌, sym, arith}
use Rattle.value.proofs.Basics.{find-next}
use Rattle.history.specs.Transactions.{is_done}
use Rattle.transactions.proofs.WalkLemmas.{find-here}
use Rattle.transactions.proofs.conflicts.keys.find_among.Goals as goal

pub returns-then-is_commit_at : goal.returns-then-is_commit_at
returns-then-is_commit_at g c =
    sym (find-here (λ t. is_done t.standing && t.end == c.args.place) c.args.transactions.now c.loop-transaction.transaction-index c.transaction-item.result (omega arith) c.transaction-item.is c.loop-transaction.invariant (sym c.is_commit_at.ensures ∙ c.if-is_commit_at.true))

pub loop-transaction-preserved : goal.loop-transaction-preserved
loop-transaction-preserved g c =
    find-next (λ t. is_done t.standing && t.end == c.args.place) c.args.transactions.now c.loop-transaction.transaction-index c.transaction-item.result (omega arith) c.transaction-item.is c.loop-transaction.invariant (sym c.is_commit_at.ensures ∙ c.if-is_commit_at.false)

use Rattle.std.proofs.Common.{ap, sym, arith, ◌++◌, ◌∷◌, [], take, ◌∙◌}
use Rattle.value.proofs.Basics.{take_next}
use Rattle.transactions.proofs.world.copy_all.Goals as goal

pub loop-transaction-preserved : goal.loop-transaction-preserved
loop-transaction-preserved g c =
    c.in_ok-push.ensures.items
    ∙ ap (λ xs. xs ++ c.in_ok-equal.equal ∷ []) c.loop-transaction.invariant
    ∙ ap (λ x. take c.loop-transaction.transaction-index c.args.transactions.now ++ x ∷ []) c.in_ok-equal.ensures.ok
    ∙ sym (take_next c.args.transactions.now c.loop-transaction.transaction-index c.transaction-item.result (omega arith) c.transaction-item.is)

use Rattle.std.proofs.Common.{ap, sym, arith, ◌++◌, ◌∷◌, [], take, ◌∙◌}
use Rattle.value.proofs.Basics.{take_next}
use Rattle.mvrows.proofs.page.PageCopied.copy.Goals as goal

pub loop-chain-preserved : goal.loop-chain-preserved
loop-chain-preserved g c =
    c.in_ok-push.ensures.items
    ∙ ap (λ xs. xs ++ c.in_ok-copy.field-0 ∷ []) c.loop-chain.invariant
    ∙ ap (λ x. take c.loop-chain.chain-index c.deref-chain-items.result.now ++ x ∷ []) c.in_ok-copy.ensures.ok
    ∙ sym (take_next c.deref-chain-items.result.now c.loop-chain.chain-index c.chain-item.result (omega arith) c.chain-item.is)

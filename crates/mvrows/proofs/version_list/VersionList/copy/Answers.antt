use Rattle.std.proofs.Common.{ap, sym, arith, ◌++◌, ◌∷◌, [], take, ◌∙◌}
use Rattle.mvrows.proofs.ChainLemmas.{take-told}
use Rattle.mvrows.proofs.version_list.VersionList.copy.Goals as goal

pub loop-version-preserved : goal.loop-version-preserved
loop-version-preserved g c =
    c.in_ok-push.ensures.items
    ∙ ap (λ xs. xs ++ c.in_ok-copy.field-0 ∷ []) c.loop-version.invariant
    ∙ ap (λ x. take c.loop-version.version-index c.deref-version-items.result.now ++ x ∷ []) c.in_ok-copy.ensures.ok
    ∙ sym (take-told c.deref-version-items.result.now c.loop-version.version-index c.version-item.result (omega arith) c.version-item.is)

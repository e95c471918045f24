use Rattle.std.proofs.Common.{ap, sym, subst, arith, length, ◌≤◌, ◌++◌, ◌∷◌, [], take, ◌∙◌}
use Rattle.std.proofs.lemmas.List.{take_all}
use Rattle.value.proofs.Basics.{take_next}
use Rattle.schema.specs.Rows.{IsInKeyOrder}
use Rattle.schema.proofs.table.page.Page.copy.Goals as goal

pub loop-row-preserved : goal.loop-row-preserved
loop-row-preserved g c =
    c.in_ok-push.ensures.items
    ∙ ap (λ xs. xs ++ c.in_ok-copy.field-0 ∷ []) c.loop-row.invariant
    ∙ ap (λ x. take c.loop-row.row-index c.deref-row-items.result.now ++ x ∷ []) c.in_ok-copy.ensures.ok
    ∙ sym (take_next c.deref-row-items.result.now c.loop-row.row-index c.row-item.result (omega arith) c.row-item.is)

pub invariant_of-result : goal.invariant_of-result
invariant_of-result g c =
    let past : length c.deref-row-items.result.now ≤ c.loop-row.row-index = omega (arith, c.loop-row-test.false, c.loop-row.auto.row-index-end) in
    subst IsInKeyOrder (sym (c.loop-row.invariant ∙ take_all c.loop-row.row-index c.deref-row-items.result.now past ∙ c.deref-row-items.ensures.value)) c.self.invariant

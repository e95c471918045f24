use Rattle.std.proofs.Common.{ap, sym, arith, ◌++◌, ◌∷◌, [], take, ◌∙◌}
use Rattle.value.proofs.Basics.{take_next}
use Rattle.history.proofs.list.copy_records.Goals as goal

pub loop-entry-preserved : goal.loop-entry-preserved
loop-entry-preserved g c = (
  c.push_reserved.ensures.items
      ∙ ap (λ xs. xs ++ c.in_ok-equal.equal ∷ []) c.loop-entry.invariant.0
      ∙ ap (λ x. take c.loop-entry.entry-index c.args.records.now ++ x ∷ []) c.in_ok-equal.ensures.ok
      ∙ sym (take_next c.args.records.now c.loop-entry.entry-index c.entry-item.result (omega arith) c.entry-item.is),
  omega (arith, c.loop-entry.invariant.1, c.push_reserved.ensures.capacity),
)

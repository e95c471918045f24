use Rattle.std.proofs.Common.{[], sym, ap, ◌∙◌, slice_index_or}
use Rattle.schema.specs.Changing.{next_change, next_keyed}
use Rattle.schema.proofs.ChangingLemmas.{next_change-table}
use Rattle.schema.proofs.changes.trees.Trees.next.Goals as goal

pub returns : goal.returns
returns g c =
    c.next.ensures
    ∙ (λ i. next_keyed (slice_index_or (c.as_slice.ensures.value i) (c.place.ensures i) []) c.args.after)
    ∙ sym (next_change-table c.args.table c.self.inside.tables.items c.args.after)
    ∙ ap (λ xs. next_change xs c.args.table c.args.after) c.self.view_is

use Rattle.std.proofs.Common.{[], sym, ap, ◌∙◌, slice_index_or}
use Rattle.schema.specs.Changing.{change_of, keyed_change}
use Rattle.schema.proofs.ChangingLemmas.{change_of-table}
use Rattle.schema.proofs.changes.trees.Trees.get.Goals as goal

pub returns : goal.returns
returns g c =
    c.get.ensures
    ∙ (λ i. keyed_change (slice_index_or (c.as_slice.ensures.value i) (c.place.ensures i) []) c.args.key.now)
    ∙ sym (change_of-table c.args.table c.self.inside.tables.items c.args.key.now)
    ∙ ap (λ xs. change_of xs c.args.table c.args.key.now) c.self.view_is

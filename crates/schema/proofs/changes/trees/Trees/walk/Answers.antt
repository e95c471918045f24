use Rattle.std.proofs.Common.{[], sym, ap, ◌∙◌, slice_index_or}
use Rattle.schema.specs.Coming.{coming, keyed_coming}
use Rattle.schema.proofs.ComingLemmas.{coming-table}
use Rattle.schema.proofs.changes.trees.Trees.walk.Goals as goal

pub returns : goal.returns
returns g c =
    c.walk.ensures
    ∙ (λ i. keyed_coming (slice_index_or (c.as_slice.ensures.value i) (c.place.ensures i) []) c.args.after)
    ∙ sym (coming-table c.args.table c.self.inside.tables.items c.args.after)
    ∙ ap (λ xs. coming xs c.args.table c.args.after) c.self.view_is

use Rattle.std.proofs.Common.{◌<◌, length, ap, ◌∙◌, arith, add-one}
use Rattle.schema.specs.Changing.{put_change}
use Rattle.schema.proofs.ListedLemmas.{put_next}
use Rattle.schema.proofs.changes.listed.trees_of.Goals as goal

pub loop-change-preserved : goal.loop-change-preserved
loop-change-preserved g c =
    let lt : c.loop-change.change-index < length c.args.list.now = omega arith in
    rw add-one (
    c.in_ok-put_copy.ensures.ok ∙ ap (λ xs. put_change xs c.change-item.result) c.loop-change.invariant ∙ put_next c.args.table c.args.list.now c.loop-change.change-index c.change-item.result c.requires lt c.change-item.is
    )

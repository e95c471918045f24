use Rattle.std.proofs.Common.{ap, ◌∙◌}
use Rattle.mvrows.specs.HeldRows.{own_pruned, own_pruned_in}
use Rattle.mvrows.proofs.LeavesLemmas.{pruned-laid_out, left-rows}
use Rattle.mvrows.proofs.table.Table.prune.Goals as goal

pub invariant_of-self : goal.invariant_of-self
invariant_of-self g c = pruned-laid_out c.args.oldest c.self.inside.leaves.items c.prune_all.new.leaves.items c.drop_empty.new.leaves.items c.drop_empty.ensures c.prune_all.ensures c.self.invariant

pub returns : goal.returns
returns g c = left-rows (own_pruned c.args.oldest) c.self.inside.leaves.items c.prune_all.new.leaves.items c.drop_empty.new.leaves.items c.drop_empty.ensures c.prune_all.ensures ∙ ap (own_pruned_in c.args.oldest) c.self.view_is

use Rattle.std.proofs.Common.{ap, ◌∙◌}
use Rattle.mvrows.specs.HeldRows.{undone, undone_in}
use Rattle.mvrows.proofs.LeavesLemmas.{undone-laid_out, left-rows}
use Rattle.mvrows.proofs.table.Table.take_back.Goals as goal

pub invariant_of-self : goal.invariant_of-self
invariant_of-self g c = undone-laid_out c.args.commit c.self.inside.leaves.items c.take_all_back.new.leaves.items c.drop_empty.new.leaves.items c.drop_empty.ensures c.take_all_back.ensures c.self.invariant

pub returns : goal.returns
returns g c = left-rows (undone c.args.commit) c.self.inside.leaves.items c.take_all_back.new.leaves.items c.drop_empty.new.leaves.items c.drop_empty.ensures c.take_all_back.ensures ∙ ap (undone_in c.args.commit) c.self.view_is

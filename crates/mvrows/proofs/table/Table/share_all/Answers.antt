use Rattle.std.proofs.Common.{ap, ◌∙◌}
use Rattle.mvrows.specs.HeldRows.{rows_in}
use Rattle.mvrows.proofs.LeavesLemmas.{same-rows, same-pages_laid_out}
use Rattle.mvrows.proofs.table.Table.share_all.Goals as goal

pub invariant_of-self : goal.invariant_of-self
invariant_of-self g c = same-pages_laid_out c.self.inside.leaves.items c.share_all.new.leaves.items c.share_all.ensures c.self.invariant

pub returns : goal.returns
returns g c = same-rows c.self.inside.leaves.items c.share_all.new.leaves.items c.share_all.ensures ∙ ap rows_in c.self.view_is

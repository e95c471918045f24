use Rattle.std.proofs.Common.{◌∙◌}
use Rattle.mvrows.proofs.LeavesLemmas.{same-rows, same-pages_laid_out}
use Rattle.mvrows.proofs.table.Table.open.Goals as goal

pub invariant_of-result : goal.invariant_of-result
invariant_of-result g c = same-pages_laid_out c.in_ok-leaves.leaves.items c.share_all.new.leaves.items c.share_all.ensures c.in_ok-leaves.ensures.laid_out

pub returns-clause-ok : goal.returns-clause-ok
returns-clause-ok g c = same-rows c.in_ok-leaves.leaves.items c.share_all.new.leaves.items c.share_all.ensures ∙ c.in_ok-leaves.ensures.ok

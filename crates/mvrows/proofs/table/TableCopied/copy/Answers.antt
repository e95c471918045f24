use Rattle.std.proofs.Common.{ap, arith, length, ◌≤◌, ◌∙◌}
use Rattle.std.proofs.lemmas.List.{take_all}
use Rattle.mvrows.specs.HeldRows.{pages_of, rows_in}
use Rattle.mvrows.proofs.LeavesLemmas.{same-rows, same-pages_laid_out}
use Rattle.mvrows.proofs.table.TableCopied.copy.Goals as goal

pub invariant_of-result : goal.invariant_of-result
invariant_of-result g c =
    let past : length c.deref-leaf-items.result.now ≤ c.loop-leaf.leaf-index = omega (arith, c.loop-leaf-test.false, c.loop-leaf.auto.leaf-index-end) in
    same-pages_laid_out c.self.inside.leaves.items c.loop-leaf.leaves.items (c.loop-leaf.invariant ∙ ap pages_of (take_all c.loop-leaf.leaf-index c.deref-leaf-items.result.now past ∙ c.deref-leaf-items.ensures.value)) c.self.invariant

pub returns-clause-ok : goal.returns-clause-ok
returns-clause-ok g c =
    let past : length c.deref-leaf-items.result.now ≤ c.loop-leaf.leaf-index = omega (arith, c.loop-leaf-test.false, c.loop-leaf.auto.leaf-index-end) in
    same-rows c.self.inside.leaves.items c.loop-leaf.leaves.items (c.loop-leaf.invariant ∙ ap pages_of (take_all c.loop-leaf.leaf-index c.deref-leaf-items.result.now past ∙ c.deref-leaf-items.ensures.value)) ∙ ap rows_in c.self.view_is

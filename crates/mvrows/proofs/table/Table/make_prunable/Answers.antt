use Rattle.std.proofs.Common.{ap, ◌∙◌}
use Rattle.std.proofs.lemmas.Result.{on_ok_weaker}
use Rattle.mvrows.specs.Pruning.{pruned_rows}
use Rattle.mvrows.specs.HeldRows.{Held, own_pruned, rows_in}
use Rattle.mvrows.proofs.LeavesLemmas.{flat-same, pruned-pages, same-rows, same-pages_laid_out}
use Rattle.mvrows.proofs.table.Table.make_prunable.Goals as goal

pub invariant_of-self : goal.invariant_of-self
invariant_of-self g c = same-pages_laid_out c.self.inside.leaves.items c.make_all_prunable.new.leaves.items c.make_all_prunable.ensures.pages c.self.invariant

pub returns-clause-same : goal.returns-clause-same
returns-clause-same g c = same-rows c.self.inside.leaves.items c.make_all_prunable.new.leaves.items c.make_all_prunable.ensures.pages ∙ ap rows_in c.self.view_is

pub returns-clause-ok : goal.returns-clause-ok
returns-clause-ok g c =
    on_ok_weaker c.make_all_prunable.result
    (λ made. flat-same (own_pruned c.args.oldest) (λ (h : Held _). pruned_rows c.args.oldest h.rows) c.make_all_prunable.new.leaves.items c.self.inside.leaves.items made ∙ pruned-pages c.args.oldest c.self.inside.leaves.items ∙ ap (λ ls. pruned_rows c.args.oldest (rows_in ls)) c.self.view_is)
    c.make_all_prunable.ensures.ok

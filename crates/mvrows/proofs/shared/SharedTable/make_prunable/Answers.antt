use Rattle.std.proofs.Common.{ap, sym, ◌∙◌}
use Rattle.std.proofs.lemmas.Result.{on_ok_weaker}
use Rattle.mvrows.specs.Pruning.{pruned_rows}
use Rattle.mvrows.specs.HeldRows.{rows_in}
use Rattle.mvrows.proofs.SharedLemmas.{held-rows}
use Rattle.mvrows.proofs.shared.SharedTable.make_prunable.Goals as goal

pub returns-clause-same : goal.returns-clause-same
returns-clause-same g c = c.make_prunable-made.ensures.same ∙ c.in_ok-table.ensures.rows ∙ sym (held-rows c.self.inside.table) ∙ ap rows_in c.self.view_is

pub returns-clause-ok : goal.returns-clause-ok
returns-clause-ok g c =
    let same = c.in_ok-table.ensures.rows ∙ sym (held-rows c.self.inside.table) ∙ ap rows_in c.self.view_is in
    on_ok_weaker c.make_prunable-made.result (λ made. made ∙ ap (pruned_rows c.args.oldest) same) c.make_prunable-made.ensures.ok

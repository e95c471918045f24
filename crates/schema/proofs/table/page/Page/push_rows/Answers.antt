use Rattle.std.proofs.Common.{◌≡◌, ◌++◌, take, OnOk, ap, subst, ◌∙◌}
use Rattle.schema.specs.Rows.{Rows, rows_within}
use Rattle.schema.specs.Walking.{lent}
use Rattle.schema.proofs.BatchLemmas.{within_drop}
use Rattle.schema.proofs.table.page.Page.push_rows.Goals as goal

pub returns-clause-ok : goal.returns-clause-ok
returns-clause-ok g c =
    let bound = c.args.bound in
    let within =
    c.split_at.ensures.back ∙ within_drop bound c.start.result c.as_slice-page.result.now c.start.ensures.before c.start.ensures.within
    ∙ ap (λ rows. rows_within rows bound) (c.as_slice-page.ensures.value ∙ c.self.view_is) in
    subst (λ (more : Rows g.row.A.Denot). OnOk c.push_all.result (lent c.push_all.new.rows.items ≡ take c.args.most (lent c.args.rows.now.items ++ more))) within c.push_all.ensures.ok

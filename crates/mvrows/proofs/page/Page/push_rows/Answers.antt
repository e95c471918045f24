use Rattle.std.proofs.Common.{◌≡◌, ◌++◌, take, OnOk, ap, subst, ◌∙◌}
use Rattle.schema.specs.Rows.{Rows, rows_within}
use Rattle.schema.specs.Walking.{lent}
use Rattle.mvrows.specs.Versions.{shown_rows}
use Rattle.mvrows.proofs.BatchLemmas.{within_drop}
use Rattle.mvrows.proofs.page.Page.push_rows.Goals as goal

pub returns-clause-ok : goal.returns-clause-ok
returns-clause-ok g c =
    let bound = c.args.bound in
    let snapshot = c.args.snapshot in
    let within =
    ap (shown_rows snapshot) c.split_at.ensures.back ∙ within_drop snapshot bound c.start.result c.as_slice-chains.result.now c.start.ensures.before c.start.ensures.within
    ∙ ap (λ keys. rows_within (shown_rows snapshot keys) bound) (c.as_slice-chains.ensures.value ∙ c.self.view_is) in
    subst (λ (more : Rows g.row.A.Denot). OnOk c.push_shown.result (lent c.push_shown.new.rows.items ≡ take c.args.most (lent c.args.rows.now.items ++ more))) within c.push_shown.ensures.ok

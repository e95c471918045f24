use Rattle.std.proofs.Common.{◌++◌, take, ap, ◌∙◌}
use Rattle.schema.specs.Paged.{joined}
use Rattle.schema.specs.Rows.{rows_within}
use Rattle.schema.specs.Walking.{lent}
use Rattle.schema.proofs.BatchLemmas.{within_pages}
use Rattle.schema.proofs.table.Table.next_rows.Goals as goal

pub returns-clause-rows : goal.returns-clause-rows
returns-clause-rows g c =
    let bound = c.of_values-bound.result in
    let within =
    ap (λ ps. rows_within (joined ps) bound) c.split_at.ensures.back
    ∙ within_pages bound c.as_slice-pages.result.now c.first_page.result c.first_page.ensures.before
    ∙ ap (λ ps. rows_within (joined ps) bound) c.as_slice-pages.ensures.value
    ∙ ap (λ rows. rows_within rows bound) c.self.view_is
    ∙ c.of_values-bound.ensures.within c.args.self.now in
    c.in_ok-push_rows_in.ensures.ok ∙ ap (λ rows. take c.args.most (lent rows ++ rows_within (joined c.split_at.result.1.now) bound)) c.new-rows.ensures.items ∙ ap (take c.args.most) within

use Rattle.std.proofs.Common.{◌++◌, take, ap, ◌∙◌}
use Rattle.schema.specs.Rows.{rows_within}
use Rattle.schema.specs.Walking.{lent}
use Rattle.mvrows.specs.Versions.{shown_rows}
use Rattle.mvrows.specs.HeldRows.{rows_in}
use Rattle.mvrows.proofs.BatchLemmas.{within_pages}
use Rattle.mvrows.proofs.table.Table.next_rows.Goals as goal

pub returns-clause-rows : goal.returns-clause-rows
returns-clause-rows g c =
    let bound = c.of_values-bound.result in
    let snapshot = c.args.snapshot in
    let within =
    ap (λ ls. rows_within (shown_rows snapshot (rows_in ls)) bound) c.split_at.ensures.back
    ∙ within_pages snapshot bound c.as_slice-leaves.result.now c.first_page.result c.first_page.ensures.before
    ∙ ap (λ ls. rows_within (shown_rows snapshot (rows_in ls)) bound) (c.as_slice-leaves.ensures.value ∙ c.self.view_is)
    ∙ c.of_values-bound.ensures.within (shown_rows snapshot (rows_in c.args.self.now)) in
    c.in_ok-push_rows_in.ensures.ok ∙ ap (λ rows. take c.args.most (lent rows ++ rows_within (shown_rows snapshot (rows_in c.split_at.result.1.now)) bound)) c.new-rows.ensures.items ∙ ap (take c.args.most) within

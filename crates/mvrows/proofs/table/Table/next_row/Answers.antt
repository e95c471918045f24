use Rattle.std.proofs.Common.{ap, ◌∙◌}
use Rattle.schema.specs.Rows.{next_row}
use Rattle.mvrows.specs.Versions.{shown_rows}
use Rattle.mvrows.specs.HeldRows.{rows_in}
use Rattle.mvrows.proofs.JoinedLemmas.{next-from}
use Rattle.mvrows.proofs.table.Table.next_row.Goals as goal

pub returns : goal.returns
returns g c =
    let bound = c.of_values-bound.result in
    c.next_in.ensures
    ∙ ap (λ ls. next_row (shown_rows c.args.snapshot (rows_in ls)) bound) c.split_at.ensures.back
    ∙ next-from c.args.snapshot bound c.as_slice-leaves.result.now c.first_page.result c.first_page.ensures.before
    ∙ ap (λ ls. next_row (shown_rows c.args.snapshot (rows_in ls)) bound) (c.as_slice-leaves.ensures.value ∙ c.self.view_is)
    ∙ c.of_values-bound.ensures.next (shown_rows c.args.snapshot (rows_in c.args.self.now))

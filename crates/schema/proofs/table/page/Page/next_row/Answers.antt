use Rattle.std.proofs.Common.{ap, sym, ◌∙◌}
use Rattle.schema.specs.Rows.{next_row}
use Rattle.schema.proofs.PutLemmas.{next-at}
use Rattle.schema.proofs.table.page.Page.next_row.Goals as goal

pub returns : goal.returns
returns g c =
    c.at.ensures
    ∙ sym (next-at c.args.bound c.start.result c.as_slice-rows.result.now c.start.ensures.before c.start.ensures.within)
    ∙ ap (λ rs. next_row rs c.args.bound) (c.as_slice-rows.ensures.value ∙ c.self.view_is)

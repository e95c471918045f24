use Rattle.std.proofs.Common.{ap, sym, ◌∙◌}
use Rattle.std.specs.Prelude.{slice_get}
use Rattle.schema.specs.Rows.{next_row}
use Rattle.mvrows.specs.Versions.{shown_rows}
use Rattle.mvrows.proofs.PageLemmas.{next_row-from}
use Rattle.mvrows.proofs.page.Page.next_row.Goals as goal

pub returns : goal.returns
returns g c =
    c.first_shown.ensures
    ∙ ap (λ rs. slice_get (shown_rows c.args.snapshot rs) 0) c.split_at.ensures.back
    ∙ sym (next_row-from c.args.snapshot c.args.bound c.start-from.result c.as_slice-chains.result.now c.start-from.ensures.before c.start-from.ensures.within)
    ∙ ap (λ rs. next_row (shown_rows c.args.snapshot rs) c.args.bound) (c.as_slice-chains.ensures.value ∙ c.self.view_is)

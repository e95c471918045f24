use Rattle.std.proofs.Common.{ap, sym, ◌∙◌}
use Rattle.schema.specs.Rows.{next_row}
use Rattle.schema.specs.Paged.{joined}
use Rattle.schema.proofs.NextLemmas.{next-here, next-past}
use Rattle.schema.proofs.table.Table.first_within.Goals as goal

pub returns-in-Some-clause-row : goal.returns-in-Some-clause-row
returns-in-Some-clause-row g c =
    c.next_row.ensures
    ∙ next-here c.args.bound c.as_slice-pages.result.now c.first_page.result c.in-Some.page.now c.first_page.ensures.before c.first_page.ensures.within (sym c.in-Some.ensures)
    ∙ ap (λ ps. next_row (joined ps) c.args.bound) c.as_slice-pages.ensures.value
    ∙ ap (λ rows. next_row rows c.args.bound) c.self.view_is

pub returns-in-None-clause-row : goal.returns-in-None-clause-row
returns-in-None-clause-row g c =
    next-past c.args.bound c.as_slice-pages.result.now c.first_page.result c.first_page.ensures.before (sym c.in-None.ensures)
    ∙ ap (λ ps. next_row (joined ps) c.args.bound) c.as_slice-pages.ensures.value
    ∙ ap (λ rows. next_row rows c.args.bound) c.self.view_is

use Rattle.std.proofs.Common.{ap, ◌∙◌}
use Rattle.schema.specs.Paged.{joined}
use Rattle.schema.specs.Rows.{row_of}
use Rattle.schema.proofs.table.Table.find.Goals as goal

pub returns : goal.returns
returns g c =
    c.find_among.ensures
    ∙ ap (λ pages. row_of (joined pages) c.args.key.now) c.as_slice.ensures.value
    ∙ ap (λ rows. row_of rows c.args.key.now) c.self.view_is

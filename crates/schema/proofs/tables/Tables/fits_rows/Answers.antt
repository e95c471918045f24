use Rattle.std.proofs.Common.{ap, not, ◌&&◌, ◌∙◌}
use Rattle.std.specs.List.{list_all}
use Rattle.schema.specs.declared.row.Row.{Row}
use Rattle.schema.specs.Plain.{is_null, cells, fits_columns}
use Rattle.schema.proofs.NextLemmas.{list_all-joined}
use Rattle.schema.proofs.tables.Tables.fits_rows.Goals as goal

pub returns-clause-rows : goal.returns-clause-rows
returns-clause-rows g c =
    c.fits_pages.ensures
    ∙ list_all-joined (λ (row : Row _). not (is_null row.0) && fits_columns c.args.self.now c.args.columns.now (cells row)) c.pages.result.now
    ∙ ap (list_all (λ (row : Row _). not (is_null row.0) && fits_columns c.args.self.now c.args.columns.now (cells row))) c.pages.ensures.rows

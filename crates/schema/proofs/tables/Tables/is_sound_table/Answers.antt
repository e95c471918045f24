use Rattle.std.proofs.Common.{sym, ap, ◌∙◌, ◌&&◌, not}
use Rattle.std.specs.List.{list_all}
use Rattle.schema.specs.Plain.{is_null, cells, fits_columns}
use Rattle.schema.proofs.InsertingLemmas.{sorted_from}
use Rattle.schema.proofs.tables.Tables.is_sound_table.Goals as goal

pub returns : goal.returns
returns g c =
    c.fits_rows.ensures.rows
    ∙ ap (λ columns. list_all (λ row. not (is_null row.0) && fits_columns c.args.self.now columns (cells row)) c.args.table.now) c.columns.ensures.columns
    ∙ ap (λ b. b && list_all (λ row. not (is_null row.0) && fits_columns c.args.self.now c.args.schema.now.columns (cells row)) c.args.table.now) (sym (sorted_from c.args.table.now c.fits_rows.ensures.ordered))

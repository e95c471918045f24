use Rattle.std.proofs.Common.{length}
use Rattle.schema.proofs.tables.Tables.+fits_columns.Given as goal

abbrev pub decreases-fits_columns : goal.decreases-fits_columns
decreases-fits_columns g l = length l.columns.now

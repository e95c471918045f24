use Rattle.std.proofs.Common.{length}
use Rattle.statement.proofs.footprint.+read_fields.Given as goal

abbrev pub decreases-read_fields : goal.decreases-read_fields
decreases-read_fields g l = length l.columns.now

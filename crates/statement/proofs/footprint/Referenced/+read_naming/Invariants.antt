use Rattle.std.proofs.Common.{length}
use Rattle.statement.proofs.footprint.Referenced.+read_naming.Given as goal

abbrev pub decreases-read_naming : goal.decreases-read_naming
decreases-read_naming g l = length l.columns.now

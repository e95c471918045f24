use Rattle.std.proofs.Common.{length}
use Rattle.statement.proofs.evaluate.delete.+names_one.Given as goal

abbrev pub decreases-names_one : goal.decreases-names_one
decreases-names_one g l = length l.columns.now

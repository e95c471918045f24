use Rattle.std.proofs.Common.{length}
use Rattle.statement.proofs.evaluate.insert.+least_null.Given as goal

abbrev pub decreases-least_null : goal.decreases-least_null
decreases-least_null g l = length l.columns.now

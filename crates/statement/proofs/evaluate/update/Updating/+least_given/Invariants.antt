use Rattle.std.proofs.Common.{length}
use Rattle.statement.proofs.evaluate.update.Updating.+least_given.Given as goal

abbrev pub decreases-least_given : goal.decreases-least_given
decreases-least_given g l = length l.columns.now

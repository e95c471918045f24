use Rattle.std.proofs.Common.{length}
use Rattle.statement.proofs.evaluate.insert.+least_dangling.Given as goal

abbrev pub decreases-least_dangling : goal.decreases-least_dangling
decreases-least_dangling g l = length l.columns.now

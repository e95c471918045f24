use Rattle.std.proofs.Common.{length}
use Rattle.orders.proofs.ways.step.+assign.Given as goal

abbrev pub decreases-assign : goal.decreases-assign
decreases-assign g l = length l.assignments.now

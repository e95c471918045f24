use Rattle.std.proofs.Common.{length}
use Rattle.orders.proofs.ways.choice.+any_fails.Given as goal

abbrev pub decreases-any_fails : goal.decreases-any_fails
decreases-any_fails g l = length l.conditions.now

use Rattle.std.proofs.Common.{length}
use Rattle.orders.proofs.ways.choice.+push_all_failing.Given as goal

abbrev pub decreases-push_all_failing : goal.decreases-push_all_failing
decreases-push_all_failing g l = length l.conditions.now

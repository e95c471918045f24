use Rattle.std.proofs.Common.{length}
use Rattle.orders.proofs.ways.choice.+push_all_asked.Given as goal

abbrev pub decreases-push_all_asked : goal.decreases-push_all_asked
decreases-push_all_asked g l = length l.conditions.now

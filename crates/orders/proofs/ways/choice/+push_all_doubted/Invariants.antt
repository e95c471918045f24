use Rattle.std.proofs.Common.{length}
use Rattle.orders.proofs.ways.choice.+push_all_doubted.Given as goal

abbrev pub decreases-push_all_doubted : goal.decreases-push_all_doubted
decreases-push_all_doubted g l = length l.conditions.now

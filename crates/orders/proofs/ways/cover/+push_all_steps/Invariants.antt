use Rattle.std.proofs.Common.{length}
use Rattle.orders.proofs.ways.cover.+push_all_steps.Given as goal

abbrev pub decreases-push_all_steps : goal.decreases-push_all_steps
decreases-push_all_steps g l = length l.ways.now

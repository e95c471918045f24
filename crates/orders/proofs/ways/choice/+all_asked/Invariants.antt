use Rattle.std.proofs.Common.{length}
use Rattle.orders.proofs.ways.choice.+all_asked.Given as goal

abbrev pub decreases-all_asked : goal.decreases-all_asked
decreases-all_asked g l = length l.conditions.now

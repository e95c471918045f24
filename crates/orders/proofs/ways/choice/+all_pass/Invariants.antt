use Rattle.std.proofs.Common.{length}
use Rattle.orders.proofs.ways.choice.+all_pass.Given as goal

abbrev pub decreases-all_pass : goal.decreases-all_pass
decreases-all_pass g l = length l.conditions.now

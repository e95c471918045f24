use Rattle.std.proofs.Common.{length}
use Rattle.orders.proofs.ways.cover.+push_all_coarse.Given as goal

abbrev pub decreases-push_all_coarse : goal.decreases-push_all_coarse
decreases-push_all_coarse g l = length l.ways.now

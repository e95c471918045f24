use Rattle.std.proofs.Common.{vec_len}
use Rattle.orders.proofs.near.last_first.Given as goal

abbrev pub decreases-loop-place : goal.decreases-loop-place
decreases-loop-place g l = vec_len l.left

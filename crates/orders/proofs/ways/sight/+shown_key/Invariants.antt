use Rattle.std.proofs.Common.{length}
use Rattle.orders.proofs.ways.sight.+shown_key.Given as goal

abbrev pub decreases-shown_key : goal.decreases-shown_key
decreases-shown_key g l = length l.columns.now

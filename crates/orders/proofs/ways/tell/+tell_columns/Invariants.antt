use Rattle.std.proofs.Common.{length}
use Rattle.orders.proofs.ways.tell.+tell_columns.Given as goal

abbrev pub decreases-tell_columns : goal.decreases-tell_columns
decreases-tell_columns g l = length l.columns.now

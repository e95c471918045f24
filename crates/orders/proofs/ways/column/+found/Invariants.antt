use Rattle.std.proofs.Common.{length}
use Rattle.orders.proofs.ways.column.+found.Given as goal

abbrev pub decreases-found : goal.decreases-found
decreases-found g l = length l.atoms.now

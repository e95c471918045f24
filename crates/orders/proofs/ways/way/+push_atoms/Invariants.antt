use Rattle.std.proofs.Common.{length}
use Rattle.orders.proofs.ways.way.+push_atoms.Given as goal

abbrev pub decreases-push_atoms : goal.decreases-push_atoms
decreases-push_atoms g l = length l.atoms.now

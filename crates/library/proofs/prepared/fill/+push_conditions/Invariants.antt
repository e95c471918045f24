use Rattle.std.proofs.Common.{length}
use Rattle.library.proofs.prepared.fill.+push_conditions.Given as goal

abbrev pub decreases-push_conditions : goal.decreases-push_conditions
decreases-push_conditions g l = length l.conditions.now

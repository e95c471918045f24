use Rattle.std.proofs.Common.{length}
use Rattle.library.proofs.prepared.fill.+push_assignments.Given as goal

abbrev pub decreases-push_assignments : goal.decreases-push_assignments
decreases-push_assignments g l = length l.assignments.now

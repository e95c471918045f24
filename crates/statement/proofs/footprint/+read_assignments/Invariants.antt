use Rattle.std.proofs.Common.{length}
use Rattle.statement.proofs.footprint.+read_assignments.Given as goal

abbrev pub decreases-read_assignments : goal.decreases-read_assignments
decreases-read_assignments g l = length l.assignments.now

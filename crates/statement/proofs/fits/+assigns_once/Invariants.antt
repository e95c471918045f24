use Rattle.std.proofs.Common.{length}
use Rattle.statement.proofs.fits.+assigns_once.Given as goal

abbrev pub decreases-assigns_once : goal.decreases-assigns_once
decreases-assigns_once g l = length l.assignments.now

use Rattle.std.proofs.Common.{length}
use Rattle.statement.proofs.fits.+literals_fit.Given as goal

abbrev pub decreases-literals_fit : goal.decreases-literals_fit
decreases-literals_fit g l = length l.columns.now

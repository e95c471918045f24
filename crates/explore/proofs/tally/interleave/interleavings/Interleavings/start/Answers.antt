use Rattle.explore.proofs.Leading.{nobody_left}
use Rattle.explore.proofs.tally.interleave.interleavings.Interleavings.start.Goals as goal

pub returns-clause-done : goal.returns-clause-done
returns-clause-done g c = λ e. nobody_left _ _ e

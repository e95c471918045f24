use Rattle.retrace.proofs.told.Conflicts.{conflicts_told}
use Rattle.retrace.proofs.laws.conflicts_told.Goals as goal

pub returns : goal.returns
returns g c = λ o es l. conflicts_told o es l

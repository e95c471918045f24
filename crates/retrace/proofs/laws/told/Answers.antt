use Rattle.retrace.proofs.told.Histories.{told}
use Rattle.retrace.proofs.laws.told.Goals as goal

pub returns : goal.returns
returns g c = λ o es l. told o es l

use Rattle.retrace.proofs.told.Explained.{explained}
use Rattle.retrace.proofs.laws.explained.Goals as goal

pub returns : goal.returns
returns g c = λ o es s a r l own code. explained o es s a r l own code

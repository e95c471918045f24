use Rattle.library.proofs.StandingLemmas.{literals-stand}
use Rattle.library.proofs.prepared.laws.literals_stand.Goals as goal

pub returns : goal.returns
returns g c s a = literals-stand s a

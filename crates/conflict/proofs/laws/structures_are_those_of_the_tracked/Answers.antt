use Rattle.conflict.proofs.Mapped.{cause_seen}
use Rattle.conflict.proofs.laws.structures_are_those_of_the_tracked.Goals as goal

pub returns : goal.returns
returns g c = cause_seen

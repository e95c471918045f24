use Rattle.conflict.proofs.WorldLemmas.{dooms_seen}
use Rattle.conflict.proofs.laws.dooms_are_those_of_the_tracked.Goals as goal

pub returns : goal.returns
returns g c = dooms_seen

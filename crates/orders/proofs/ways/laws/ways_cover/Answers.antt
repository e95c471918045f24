use Rattle.orders.proofs.CoverLemmas.{covered}
use Rattle.orders.proofs.ways.laws.ways_cover.Goals as goal

pub returns : goal.returns
returns g c = covered

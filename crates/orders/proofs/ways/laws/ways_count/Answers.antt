use Rattle.orders.proofs.CoverLemmas.{counted}
use Rattle.orders.proofs.ways.laws.ways_count.Goals as goal

pub returns : goal.returns
returns g c = counted

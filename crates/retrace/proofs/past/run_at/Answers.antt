use Rattle.retrace.proofs.PastLemmas.{at_place-is}
use Rattle.retrace.proofs.past.run_at.Goals as goal

pub returns : goal.returns
returns g c = at_place-is c.args.runs.now c.args.at c.index-runs-at.result c.requires c.index-runs-at.is

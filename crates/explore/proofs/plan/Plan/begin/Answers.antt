use Rattle.explore.proofs.Beginnings.{begins}
use Rattle.explore.proofs.plan.Plan.begin.Goals as goal

pub returns-in-Ok : goal.returns-in-Ok
returns-in-Ok g c = begins c.args.self.now c.self.inside.setup c.self.inside.lines.items c.self.inside.counts.items c.self.inside.turns c.in-Ok.core c.self.view_is c.self.invariant.0 c.self.invariant.1 c.in-Ok.ensures

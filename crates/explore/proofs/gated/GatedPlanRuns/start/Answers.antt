use Rattle.explore.proofs.gated.GatedPlanRuns.start.Goals as goal

pub returns : goal.returns
returns g c = c.new.ensures c.args.self.now.plan.now

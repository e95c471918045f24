use Rattle.explore.specs.Trails.{AreSaved, IsSaved}
use Rattle.explore.proofs.TrailLemmas.{if_some, on_ok}
use Rattle.explore.proofs.plan.Plan.resume.Goals as goal

pub returns-in-Some-clause-run : goal.returns-in-Some-clause-run
returns-in-Some-clause-run g c =
    if_some (IsSaved c.args.self.now c.args.trail.now.order.items) c.in_ok-found.field-0 c.in-Some.found c.in-Some.is (c.in_ok-found.ensures.last c.args.self.now c.requires)

pub returns-in-Some-clause-saved : goal.returns-in-Some-clause-saved
returns-in-Some-clause-saved g c = c.in_ok-found.ensures.saved c.args.self.now c.requires

pub returns-in-None-clause-saved : goal.returns-in-None-clause-saved
returns-in-None-clause-saved g c = on_ok (AreSaved c.args.self.now c.take_last.new.self) c.unbegun.result (c.in_ok-found.ensures.saved c.args.self.now c.requires)

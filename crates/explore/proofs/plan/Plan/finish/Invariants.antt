use Rattle.std.proofs.Common.{◌≡◌, ◌-◌, length}
use Rattle.explore.specs.Trails.{AreSaved, IsSaved}
use Rattle.explore.proofs.plan.Plan.finish.Given as goal

-- the core is that of the turns so far, and so are those that are kept
abbrev pub invariant-going : goal.invariant-going
invariant-going g l = (l.trail.order.items ≡ l.order) × AreSaved l.self l.trail × IsSaved l.self l.order l.run

abbrev pub decreases-going : goal.decreases-going
decreases-going g l = length l.order - l.run.turns

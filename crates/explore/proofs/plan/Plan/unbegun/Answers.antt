use Rattle.std.proofs.Common.{refl, subst, sym}
use Rattle.explore.specs.Trails.{IsSaved}
use Rattle.explore.proofs.TrailLemmas.{none_done}
use Rattle.explore.proofs.plan.Plan.unbegun.Goals as goal

pub returns : goal.returns
returns g c = λ order. subst (IsSaved c.args.self.now order) (sym c.in_ok-unbegun.ensures) (none_done c.args.self.now order _ c.in_ok-core.ensures c.nothing.ensures refl refl)

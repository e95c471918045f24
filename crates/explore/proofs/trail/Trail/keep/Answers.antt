use Rattle.std.proofs.Common.{subst, sym, [], ◌∷◌}
use Rattle.std.specs.List.{AllByRecursion}
use Rattle.value.proofs.Basics.{all-append}
use Rattle.explore.specs.Trails.{IsSaved}
use Rattle.explore.proofs.trail.Trail.keep.Goals as goal

pub returns-clause-saved : goal.returns-clause-saved
returns-clause-saved g c = λ e all is.
    let P = IsSaved e c.args.self.now.order.items in
    subst (AllByRecursion P) (sym c.in_ok-push.ensures.items) (all-append P c.args.self.now.saved.items (c.in_ok-copy.copy ∷ []) all (subst P (sym c.in_ok-copy.ensures) is, tt))
